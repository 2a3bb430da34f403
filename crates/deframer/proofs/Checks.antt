-- The running check of a run, kind by kind, and that a run is framing's. Assumes nothing.
use Prim.Native.Nat.{ℕ, suc, ◌+◌, ◌%◌, ◌≤◌, ◌<◌}
use mathlib.Core.Bool.{true, false}
use mathlib.Core.List.{List, [], ◌∷◌}
use mathlib.Core.Path.{◌≡◌, refl, sym, ap, ◌∙◌}
use native.Mathlib.Omega.{arith}
use borrow.Author.Tests.{ne_eqb}
use lib.Dec.{eqb}
use lib.ListN.{length, get_or}
use Rattle.deframer.specs.Rule.{sum_check, register_check, added, rules_of}
use Rattle.deframer.specs.Run.{added_all, with_run}
use Rattle.deframer.specs.Scan.{view}
use Rattle.deframer.specs.declared.Rule.{Rule}
use Rattle.deframer.specs.declared.State.{State}
use Rattle.fcs.specs.Fcs.{feed, feed_all}
use Rattle.framing.proofs.Within.{capped_low}
use Rattle.framing.specs.Reports.{check_from}
use Rattle.framing.specs.Run as framing
use Rattle.octets.proofs.Summing.{running_sum}
use Rattle.octets.specs.Sum.{sum}

-- ---- the kinds
module _ (kind : ℕ) where
  module _ (k : eqb kind sum_check ≡ true) where
    none : (n a : ℕ) → added_all kind n a [] ≡ a
    unfolding added_all
    none n a = refl

    more : (n a x : ℕ) (xs : List ℕ) → added_all kind n a (x ∷ xs) ≡ added_all kind (suc n) ((a + x) % 256) xs
    unfolding added_all added
    more n a x xs = rw k

    pub added_all-sum : (xs : List ℕ) (n a : ℕ) → 0 < length xs → added_all kind n a xs ≡ (a + sum xs) % 256
    added_all-sum = running_sum (added_all kind) none more

  module _ (k : eqb kind sum_check ≡ false) where
    pub added_all-register : eqb kind register_check ≡ true → (xs : List ℕ) (n a : ℕ) → added_all kind n a xs ≡ feed_all a xs
    unfolding added_all added feed_all
    added_all-register l [] n a = refl
    added_all-register l (x ∷ xs) n a = rw (k, l) (added_all-register l xs (suc n) (feed a x))

    module _ (l : eqb kind register_check ≡ false) where
      added_later : (n a x : ℕ) → added kind (suc n) a x ≡ a
      unfolding added
      added_later n a x = rw (k, l, ne_eqb (suc n) 0 (λ e. omega (arith, e)))

      added_all-kept : (xs : List ℕ) (n a : ℕ) → added_all kind (suc n) a xs ≡ a
      unfolding added_all
      added_all-kept [] n a = refl
      added_all-kept (x ∷ xs) n a = ap (λ (b : ℕ). added_all kind (suc (suc n)) b xs) (added_later n a x) ∙ added_all-kept xs (suc n) a

      -- the first octet decides
      pub added_all-first : (xs : List ℕ) (n a : ℕ) → 0 < length xs → added_all kind n a xs ≡ added kind n a (get_or xs 0 0)
      unfolding added_all
      added_all-first [] n a h = absurd (omega (arith, h))
      added_all-first (x ∷ xs) n a h = added_all-kept xs n (added kind n a x)

-- ---- a run within the cap is framing's
module _ (r : Rule) where
  check_from-added_all : (xs : List ℕ) (n a : ℕ) → n + length xs ≤ r.cap → check_from (rules_of r) n a xs ≡ added_all r.check n a xs
  unfolding check_from added_all
  check_from-added_all [] n a h = refl
  check_from-added_all (x ∷ xs) n a h =
      ap (λ (k : ℕ). check_from (rules_of r) (suc n) (added r.check k a x) xs) (capped_low (rules_of r) n (omega arith))
      ∙ check_from-added_all xs (suc n) (added r.check n a x) (omega arith)

  pub with_run_framing : (s : State) (xs : List ℕ) → (0 < length xs → s.count + length xs ≤ r.cap) → view (with_run r s xs) ≡ framing.with_run (rules_of r) (view s) xs
  unfolding with_run framing.with_run
  with_run_framing s [] h = refl
  with_run_framing s (x ∷ xs) h =
      let e = check_from-added_all (x ∷ xs) s.count s.check (h (omega arith)) in
      λ i. record { synced = s.synced; pending = s.pending; bad = s.bad; count = s.count + length (x ∷ xs); check = sym e i }
