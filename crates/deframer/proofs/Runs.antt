-- Runs of octets in the shared loop: what is found is a run, and what it does at once is what its octets do one by one. Assumes nothing.
use Prim.Native.Nat.{ℕ, ◌+◌, ◌-◌, ◌≤◌, ◌<◌}
use mathlib.Core.Bool.{Bool, true, false, cond, ◌&&◌, ◌||◌}
use mathlib.Core.List.{List, [], ◌∷◌}
use mathlib.Core.Path.{◌≡◌, refl, sym, ap, ap₂, subst, ◌∙◌}
use native.Mathlib.Omega.{arith}
use lib.Dec.{eqb}
use lib.ListN.{length, take, drop, length-drop}
use lib.Seq.{sets, take_all, take-take, length-take-le}
use Rattle.common.proofs.Parts.{part_within}
use Rattle.common.proofs.Plain.{plain_narrower, plain_length-within, plain_length-plain}
use Rattle.common.specs.Plain.{plain, plain_length}
use Rattle.deframer.proofs.Checks.{with_run_framing}
use Rattle.deframer.specs.Rule.{is_skipped, rules_of}
use Rattle.deframer.specs.Run.{added_all, with_run}
use Rattle.deframer.specs.Scan.{view}
use Rattle.deframer.specs.declared.Rule.{Rule}
use Rattle.deframer.specs.declared.State.{State}
use Rattle.escapes.specs.Escapes.{is_escaped}
use Rattle.framing.proofs.Runs as framing
use Rattle.framing.specs.Rules as rules
use Rattle.framing.specs.Run.{is_special, Run}
use Rattle.framing.specs.Run as runs
use Rattle.framing.specs.Step.{step}
use Rattle.line.specs.Scan.{after, scan}

-- ---- what is found
module _ (r : Rule) where
  -- an octet that is not escaped stands for itself
  not_special : (x : ℕ) → is_escaped r.escapes x ≡ false → is_special (rules_of r) x ≡ false
  unfolding is_skipped is_escaped
  not_special x e = go (eqb x r.escapes.flag) (eqb x r.escapes.escape) (r.escapes.others && (eqb x r.escapes.third || eqb x r.escapes.fourth)) e
    where
      go : (f g h : Bool) → (f || (g || h)) ≡ false → (f || (g || cond f false (cond g false (f || (g || h))))) ≡ false
      go true g h e = e
      go false true h e = e
      go false false h e = e

  module _ (s : State) (y : s.synced ≡ true) (p : s.pending ≡ false) (xs : List ℕ) (n : ℕ) where
    -- at the front of a chunk, for all of which the segment has room
    pub run_found : n ≡ plain_length (is_escaped r.escapes) xs → s.count + length xs ≤ r.cap
        → (n ≤ length xs) × (0 < n → Run (rules_of r) (view s) (take n xs))
    run_found e room =
        let w = plain_length-within (is_escaped r.escapes) xs in
        let l : length (take n xs) ≡ n = length-take-le n xs (omega (arith, e)) in
        let q = subst (λ (k : ℕ). plain (is_escaped r.escapes) (take k xs) ≡ true) (sym e) (plain_length-plain (is_escaped r.escapes) xs) in
        (omega (arith, e), λ _. (y, p, omega (arith, l, e), plain_narrower (is_escaped r.escapes) (is_special (rules_of r)) not_special (take n xs) q))

    -- or for k octets of it
    pub run_found_within : (k : ℕ) → k ≤ length xs → s.count + k ≤ r.cap → n ≡ plain_length (is_escaped r.escapes) (take k xs)
        → (n ≤ length xs) × (0 < n → Run (rules_of r) (view s) (take n xs))
    run_found_within k h room e =
        let w = plain_length-within (is_escaped r.escapes) (take k xs) in
        let t : length (take k xs) ≡ k = length-take-le k xs h in
        let l : length (take n xs) ≡ n = length-take-le n xs (omega (arith, e, t)) in
        let q = subst (λ (j : ℕ). plain (is_escaped r.escapes) (take j (take k xs)) ≡ true) (sym e) (plain_length-plain (is_escaped r.escapes) (take k xs)) in
        let q = rw (take-take n k xs (omega (arith, e, t))) at q in
        (omega (arith, e, t), λ _. (y, p, omega (arith, l, e, t), plain_narrower (is_escaped r.escapes) (is_special (rules_of r)) not_special (take n xs) q))

-- ---- the state after no octets, and after some
module _ (r : Rule) (s : State) where
  pub with_run_none : (xs : List ℕ) → length xs ≡ 0 → s ≡ with_run r s xs
  unfolding with_run
  with_run_none [] e = refl
  with_run_none (x ∷ xs) e = absurd (omega (arith, e))

  pub with_run_some : (xs : List ℕ) (a : ℕ) → (length xs ≡ 0 → ⊥) → a ≡ added_all r.check s.count s.check xs
      → ◌≡◌ {A = State} record { synced = s.synced; pending = s.pending; bad = s.bad; count = s.count + length xs; check = a } (with_run r s xs)
  unfolding with_run
  with_run_some [] a h e = absurd (h refl)
  with_run_some (x ∷ xs) a h e = λ i. record { synced = s.synced; pending = s.pending; bad = s.bad; count = s.count + length (x ∷ xs); check = e i }

-- nothing put down changes nothing
pub sets-none : (xs m : List ℕ) (i : ℕ) → length xs ≡ 0 → m ≡ sets m i xs
sets-none [] m i e = refl
sets-none (x ∷ xs) m i e = absurd (omega (arith, e))

-- ---- a loop over the chunk xs that stands at octet i, and a run of n octets that was found at the front of what is left
module _ (r : Rule) (s : State) (xs : List ℕ) (i n : ℕ) (h : i ≤ length xs)
    (b : n ≤ length (take (length xs - i) (drop i xs))) (found : 0 < n → Run (rules_of r) (view s) (take n (take (length xs - i) (drop i xs)))) where
  left : take (length xs - i) (drop i xs) ≡ drop i xs
  left = take_all (length xs - i) (drop i xs) (rw (length-drop i xs) (omega arith))

  pub run_fits : i + n ≤ length xs
  run_fits = omega (arith, b, ap length left, length-drop i xs, h)

  run : 0 < n → Run (rules_of r) (view s) (take n (drop i xs))
  run q = subst (λ (l : List ℕ). Run (rules_of r) (view s) (take n l)) left (found q)

  length_part : length (take (i + n - i) (drop i xs)) ≡ n
  length_part = ap length (part_within xs i n) ∙ length-take-le n (drop i xs) (rw (length-drop i xs) (omega (arith, run_fits)))

  pub run_room : 0 < length (take (i + n - i) (drop i xs)) → s.count + length (take (i + n - i) (drop i xs)) ≤ r.cap
  run_room q = let u = (run (omega (arith, q, length_part))).2 in omega (arith, u, length_part, ap length (part_within xs i n))

  -- the state and the buffer behind it give what the whole gives
  pub run_turn : (m m' : List ℕ) (t : State) → t ≡ with_run r s (take (i + n - i) (drop i xs)) → m' ≡ sets m s.count (take (i + n - i) (drop i xs))
      → after i (scan (step (rules_of r)) (view s) (drop i xs) m) ≡ after (i + n) (scan (step (rules_of r)) (view t) (drop (i + n) xs) m')
  run_turn m m' t e f =
      let part = take (i + n - i) (drop i xs) in
      framing.scan_run_turn (rules_of r) (view s) xs i n m run_fits run
      ∙ ap (λ (l : List ℕ). after (i + n) (scan (step (rules_of r)) (runs.with_run (rules_of r) (view s) l) (drop (i + n) xs) (sets m s.count l))) (sym (part_within xs i n))
      ∙ ap₂ (λ (t : rules.State ℕ) (m : List ℕ). after (i + n) (scan (step (rules_of r)) t (drop (i + n) xs) m))
      (sym (with_run_framing r s part run_room) ∙ ap view (sym e)) (sym f)
