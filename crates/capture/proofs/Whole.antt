-- The counts, chunk after chunk, are those of the whole capture, up to where they stop. Assumes nothing.
use Prim.Native.Nat.{ℕ, ◌+◌, ◌≤◌}
use mathlib.Core.Bool.{Bool, true, false}
use mathlib.Core.List.{List}
use mathlib.Core.Path.{◌≡◌, refl, sym, ap, ◌∙◌}
use native.Mathlib.Omega.{arith}
use lib.ListN.{length}
use Rattle.capture.proofs.Counting.{count_all-plain, count_all-flagged}
use Rattle.capture.proofs.Flags.{flags_none, before_all, between_none, after_none, parts_add_up}
use Rattle.capture.specs.Octets.{fresh_octets, plain_added, count_all, flags_added}
use Rattle.capture.specs.Whole.{before, flags, between, after}
use Rattle.capture.specs.declared.Octets.{Octets}
use Rattle.counter.proofs.Counting.{counted_none, counted_exact}
use Rattle.counter.specs.Counted.{counted}
use Rattle.framing.specs.Flags.{has_flag}

module _ (most flag : ℕ) (l : List ℕ) where
  abbrev stops : ℕ → ℕ
  stops n = counted most 0 n

  abbrev pub whole_octets : Octets
  whole_octets = record { synced = has_flag flag l; before = stops (before flag l); flags = stops (flags flag l); between = stops (between flag l); after = stops (after flag l) }

  by_flag : (b : Bool) → has_flag flag l ≡ b → count_all most flag fresh_octets l ≡ whole_octets
  unfolding plain_added flags_added
  by_flag true k = count_all-flagged most flag l fresh_octets k ∙ (λ i. record {
    synced = sym k i;
    before = stops (before flag l);
    flags = stops (flags flag l);
    between = ap (λ (n : ℕ). counted most n (between flag l)) (counted_none most 0) i;
    after = stops (after flag l);
  })
  by_flag false k = count_all-plain most flag l fresh_octets k ∙ (λ i. record {
    synced = sym k i;
    before = stops (sym (before_all flag l k) i);
    flags = (sym (counted_none most 0) ∙ ap stops (sym (flags_none flag l k))) i;
    between = (sym (counted_none most 0) ∙ ap stops (sym (between_none flag l k))) i;
    after = (sym (counted_none most 0) ∙ ap stops (sym (after_none flag l k))) i;
  })

  pub octets_whole : count_all most flag fresh_octets l ≡ whole_octets
  octets_whole = by_flag (has_flag flag l) refl

  -- a capture of no more octets than the limit: the counts are exact
  module _ (few : length l ≤ most) where
    exact : (n : ℕ) → n ≤ length l → stops n ≡ n
    exact n h = let z : 0 + n ≡ n = omega arith in counted_exact most 0 n (omega arith) ∙ z

    pub octets_exact : count_all most flag fresh_octets l
        ≡ record { synced = has_flag flag l; before = before flag l; flags = flags flag l; between = between flag l; after = after flag l }
    octets_exact =
        let sum = parts_add_up flag l in
        octets_whole ∙ (λ i. record {
          synced = has_flag flag l;
          before = exact (before flag l) (omega (arith, sum)) i;
          flags = exact (flags flag l) (omega (arith, sum)) i;
          between = exact (between flag l) (omega (arith, sum)) i;
          after = exact (after flag l) (omega (arith, sum)) i;
        })
