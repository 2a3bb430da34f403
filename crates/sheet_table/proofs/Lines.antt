-- What a capture does to the table, line by line. Assumes nothing.
--     tally_others      every other line's record is as before
--     tally_refused     a capture that is refused leaves the table as before
--     tally_line        at 0 the line is one of the sheet's and of the table's
--     tally_added       and its record is the sum
--     length-tally      the table keeps its length
--     tally_stopped     counts that stopped where they were too large do what the true ones would
use Prim.Native.Nat.{ℕ, ◌<◌}
use mathlib.Core.List.{List}
use mathlib.Core.Path.{◌≡◌, refl, ap, ◌∙◌}
use borrow.Author.Tests.{leb-false}
use lib.ListN.{length, get_or, set, length-set}
use lib.Seq.{get_or-set_same, get_or-set_other}
use Rattle.common.proofs.Refusals.{Passed, guarded_done, guarded_both}
use Rattle.sheet.specs.Limits.{lines}
use Rattle.sheet.specs.Tallies.{stopped}
use Rattle.sheet.specs.declared.Counts.{Counts}
use Rattle.sheet.specs.declared.Tally.{Tally}
use Rattle.sheet_tally.proofs.Passing.{refusals_passed}
use Rattle.sheet_tally.proofs.Stopped.{guarded_stopped}
use Rattle.sheet_tally.specs.Adding.{refusals, sum_of}
use Rattle.sheet_table.specs.Table.{Outcome, record_of, tally_call}

module _ (ys : List Tally) (i : ℕ) (c : Counts) where
  abbrev refused : ℕ → Outcome
  refused n = record { number = n; table = ys }

  abbrev done : Outcome
  done = record { number = 0; table = set ys i (sum_of (record_of ys i) c) }

  -- what holds of every refusal and of what is done else
  tally_ind : (P : Outcome → Type 0) → ((n : ℕ) → P (refused n)) → P done → P (tally_call ys i c)
  unfolding tally_call
  tally_ind P r d = guarded_both (λ (o _ : Outcome). P o) (refusals (record_of ys i) i (length ys) c) refused refused done done r d

  pub tally_others : (j : ℕ) (d : Tally) → (j ≡ i → ⊥) → get_or (tally_call ys i c).table j d ≡ get_or ys j d
  tally_others j d h = tally_ind (λ (o : Outcome). get_or o.table j d ≡ get_or ys j d) (λ n. refl) (get_or-set_other ys i j _ d h)

  pub tally_refused : ((tally_call ys i c).number ≡ 0 → ⊥) → (tally_call ys i c).table ≡ ys
  tally_refused = tally_ind (λ (o : Outcome). (o.number ≡ 0 → ⊥) → o.table ≡ ys) (λ n h. refl) (λ h. absurd (h refl))

  pub length-tally : length (tally_call ys i c).table ≡ length ys
  length-tally = tally_ind (λ (o : Outcome). length o.table ≡ length ys) (λ n. refl) (length-set ys i _)

  module _ (z : (tally_call ys i c).number ≡ 0) where
    passed : Passed (refusals (record_of ys i) i (length ys) c)
    unfolding tally_call
    passed = refusals_passed (λ (o : Outcome). o.number) refused (λ n. refl) done (record_of ys i) i (length ys) c z

    pub tally_line : (i < lines) × (i < length ys)
    unfolding refusals
    tally_line = (leb-false lines i passed.1.0, leb-false (length ys) i passed.1.1.0)

    pub tally_added : (d : Tally) → get_or (tally_call ys i c).table i d ≡ sum_of (record_of ys i) c
    unfolding tally_call
    tally_added d =
        ap (λ (o : Outcome). get_or o.table i d) (guarded_done refused done (refusals (record_of ys i) i (length ys) c) passed)
        ∙ get_or-set_same ys i (sum_of (record_of ys i) c) d tally_line.1

pub tally_stopped : (ys : List Tally) (i n : ℕ) (cs : List ℕ) → tally_call ys i (record { number = n; counts = stopped cs }) ≡ tally_call ys i (record { number = n; counts = cs })
unfolding tally_call
tally_stopped ys i n cs = guarded_stopped (record_of ys i) i (length ys) n cs (λ m. record { number = m; table = ys }) (λ s. record { number = 0; table = set ys i s })
