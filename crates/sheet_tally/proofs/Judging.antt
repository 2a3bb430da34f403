-- What a capture makes of a record: a law for each refusal, and one for the sums. Assumes nothing.
use Prim.Native.Nat.{ℕ, ◌≤◌, ◌<◌}
use mathlib.Core.Bool.{Bool, true, false, cond}
use mathlib.Core.List.{List}
use mathlib.Core.Path.{◌≡◌, refl}
use borrow.Author.Tests.{eq-eqb, ne_eqb, le-leb, lt-leb}
use lib.Dec.{leb}
use Rattle.sheet.specs.Answers.{no_line, count_too_large}
use Rattle.sheet.specs.Limits.{lines}
use Rattle.sheet.specs.declared.Counts.{Counts}
use Rattle.sheet.specs.declared.Tally.{Tally}
use Rattle.sheet_tally.specs.Adding.{sums, all_fit, added_of, refusals, judged_of}
use Rattle.sheet_tally.specs.Adding.{Added}

module _ (t : Tally) (c : Counts) where
  pub added_refused : all_fit (sums t.counts c.counts) ≡ false → record { number = count_too_large; tally = t } ≡ added_of t c
  added_refused e = rw e

  pub added_all_lem : (ns : List ℕ) → all_fit (sums t.counts c.counts) ≡ true → ns ≡ sums t.counts c.counts → record { number = 0; tally = record { counts = ns } } ≡ added_of t c
  added_all_lem ns e s = rw (e, s)

  module _ (line n : ℕ) where
    -- nothing was counted
    pub judged_refused : (c.number ≡ 0 → ⊥) → record { number = c.number; tally = t } ≡ judged_of t line n c
    unfolding judged_of refusals
    judged_refused e = rw (ne_eqb _ _ e)

    module _ (z : c.number ≡ 0) where
      pub judged_over : lines ≤ line → record { number = no_line; tally = t } ≡ judged_of t line n c
      unfolding judged_of refusals
      judged_over h = rw (eq-eqb _ _ z, le-leb _ _ h)

      pub judged_past : n ≤ line → record { number = no_line; tally = t } ≡ judged_of t line n c
      unfolding judged_of refusals
      judged_past k = rw (eq-eqb _ _ z, le-leb _ _ k) (by (leb lines line))
        where
          by : (over : Bool) → record { number = no_line; tally = t } ≡ cond {A = Added} over (record { number = no_line; tally = t }) (record { number = no_line; tally = t })
          by true = refl
          by false = refl

      pub judged_added : line < lines → line < n → added_of t c ≡ judged_of t line n c
      unfolding judged_of refusals
      judged_added h k = rw (eq-eqb _ _ z, lt-leb _ _ h, lt-leb _ _ k)
