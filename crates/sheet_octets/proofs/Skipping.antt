-- Skipped octets of a chunk and what is left of its parts, as the code goes. Assumes nothing.
use Prim.Native.Nat.{ℕ, suc, ◌+◌, ◌-◌, ◌≤◌}
use mathlib.Core.Bool.{Bool, true, false, cond, ◌||◌}
use mathlib.Core.List.{List, [], ◌∷◌}
use mathlib.Core.Path.{◌≡◌, refl, sym, ap, ap₂, ◌∙◌}
use native.Mathlib.Omega.{arith}
use borrow.Author.Tests.{ne_eqb, eqb-true}
use lib.Dec.{eqb}
use lib.ListN.{length, take, drop, length-drop}
use lib.Seq.{take_all}
use Rattle.capture.proofs.Counting.{parts_added_lem}
use Rattle.capture.proofs.Flags.{parts_add_up}
use Rattle.capture.specs.Octets.{parts_of, parts_added}
use Rattle.capture.specs.Whole.{before, flags, between, after}
use Rattle.capture.specs.declared.Octets.{Octets}
use Rattle.capture.specs.declared.Parts.{Parts}
use Rattle.framing.specs.Reports.{unskipped}
use Rattle.qaft.specs.Escape.{flag, xon, xoff, is_flow_control}
use Rattle.qaft.specs.Limits.{sum_kind}
use Rattle.qaft_rules.specs.Rules.{rules}
use Rattle.sheet.specs.Limits.{too_large}
use Rattle.sheet_octets.proofs.Apart.{apart, betweens, skipped_parts}
use Rattle.sheet_octets.specs.Raw.{flow_of, raw_all}
use Rattle.sheet_octets.specs.declared.RawOctets.{RawOctets}
use Rattle.sheet_rules.specs.Counts.{skipped_of}

-- ---- skipped octets: those of the two kinds, or none
both_kinds : (l : List ℕ) → flags xon l + flags xoff l ≡ skipped_of 1 l
unfolding flags skipped_of is_flow_control
both_kinds [] = refl
both_kinds (x ∷ l) = go (eqb x xon) refl (eqb x xoff) refl (both_kinds l)
  where
    go : (a : Bool) → eqb x xon ≡ a → (b : Bool) → eqb x xoff ≡ b → flags xon l + flags xoff l ≡ skipped_of 1 l
        → cond a (suc (flags xon l)) (flags xon l) + cond b (suc (flags xoff l)) (flags xoff l) ≡ cond (a || b) (suc (skipped_of 1 l)) (skipped_of 1 l)
    go true e true f ih = let z : ⊥ = omega (arith, eqb-true x xon e, eqb-true x xoff f) in absurd z
    go true e false f ih = omega (arith, ih)
    go false e true f ih = omega (arith, ih)
    go false e false f ih = ih

module _ (level : ℕ) (l : List ℕ) where
  pub skipped_some : level ≡ 1 → (m n : ℕ) → m ≡ flags xon l → n ≡ flags xoff l → m + n ≡ skipped_of level l
  skipped_some h m n me ne = ap₂ (λ (m n : ℕ). m + n) me ne ∙ both_kinds l ∙ ap (λ (k : ℕ). skipped_of k l) (sym h)

  pub skipped_within : skipped_of level l ≤ length l
  skipped_within = let a = apart level l in omega (arith, a.lengths, a.length-skipped)

pub skipped_none : (level : ℕ) → (level ≡ 1 → ⊥) → (l : List ℕ) → 0 ≡ skipped_of level l
unfolding skipped_of is_flow_control
skipped_none level h [] = refl
skipped_none level h (x ∷ l) = rw (ne_eqb level 1 h) (skipped_none level h l)

module _ (level : ℕ) (l : List ℕ) where
  -- ---- p are the chunk's parts; b, a and t the skipped octets before its first flag, after its last, and of all of it
  module _ (p : Parts) (pe : p ≡ parts_of flag l) where
    pub before_within : p.before ≤ length l
    before_within = omega (arith, ap (λ (p : Parts). p.before) pe, parts_add_up flag l)

    pub after_within : p.after ≤ length l
    after_within = omega (arith, ap (λ (p : Parts). p.after) pe, parts_add_up flag l)

    module _ (b a t : ℕ) (be : b ≡ skipped_of level (take p.before l)) (ae : a ≡ skipped_of level (take (length l - (length l - p.after)) (drop (length l - p.after) l))) (te : t ≡ skipped_of level l) where
      b_is : b ≡ before flag (flow_of level l)
      b_is = be ∙ ap (λ (p : Parts). skipped_of level (take p.before l)) pe ∙ sym (apart level l).before_skipped

      a_is : a ≡ after flag (flow_of level l)
      a_is =
          let i = length l - p.after in
          let all : length (drop i l) ≤ length l - i = omega (arith, length-drop i l) in
          ae
          ∙ ap (skipped_of level) (take_all (length l - i) (drop i l) all)
          ∙ ap (λ (p : Parts). skipped_of level (drop (length l - p.after) l)) pe
          ∙ sym (apart level l).after_skipped

      pub skipped_apart : b + a ≤ t
      skipped_apart = omega (arith, b_is, a_is, te, skipped_parts level l)

      pub flow_parts_are : ◌≡◌ {A = Parts} (record { before = b; flags = p.flags; between = t - b - a; after = a }) (parts_of flag (flow_of level l))
      flow_parts_are =
          let inner : t - b - a ≡ between flag (flow_of level l) = omega (arith, b_is, a_is, te, skipped_parts level l) in
          let n = ap (λ (p : Parts). p.flags) pe ∙ sym (apart level l).flags_skipped in
          λ i. record { before = b_is i; flags = n i; between = inner i; after = a_is i }

    -- ---- q are the parts of the flags and skipped octets: what is left is read
    module _ (q : Parts) (qe : q ≡ parts_of flag (flow_of level l)) where
      -- of each part so many are read and so many skipped
      sums : let u = unskipped (rules level sum_kind) l in (before flag u + q.before ≡ p.before) × (between flag u + q.between ≡ p.between) × (after flag u + q.after ≡ p.after)
      sums =
          let a = apart level l in (
            omega (arith, ap (λ (p : Parts). p.before) pe, ap (λ (p : Parts). p.before) qe, a.befores),
            omega (arith, ap (λ (p : Parts). p.between) pe, ap (λ (p : Parts). p.between) qe, betweens level l),
            omega (arith, ap (λ (p : Parts). p.after) pe, ap (λ (p : Parts). p.after) qe, a.afters),
          )

      pub fewer : (q.before ≤ p.before) × (q.between ≤ p.between) × (q.after ≤ p.after)
      fewer = (omega (arith, sums.0), omega (arith, sums.1), omega (arith, sums.2))

      abbrev left : Parts
      left = record { before = p.before - q.before; flags = p.flags; between = p.between - q.between; after = p.after - q.after }

      left_is : left ≡ parts_of flag (unskipped (rules level sum_kind) l)
      left_is =
          let u = unskipped (rules level sum_kind) l in
          let b : p.before - q.before ≡ before flag u = omega (arith, sums.0) in
          let m : p.between - q.between ≡ between flag u = omega (arith, sums.1) in
          let e : p.after - q.after ≡ after flag u = omega (arith, sums.2) in
          let n = ap (λ (p : Parts). p.flags) pe ∙ sym (apart level l).flags_read in
          λ i. record { before = b i; flags = n i; between = m i; after = e i }

      pub raw_added : (r : RawOctets) (k s : Octets) → k ≡ parts_added too_large r.kept left → s ≡ parts_added too_large r.skipped q
          → ◌≡◌ {A = RawOctets} (record { kept = k; skipped = s }) (raw_all level r l)
      raw_added r k s ke se = λ i. record {
        kept = parts_added_lem too_large flag (unskipped (rules level sum_kind) l) r.kept left k left_is ke i;
        skipped = parts_added_lem too_large flag (flow_of level l) r.skipped q s qe se i;
      }
