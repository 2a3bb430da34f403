-- The share that is printed, "the share of bad checks in all reports as two whole numbers in lowest terms, "0/1" where nothing was reported".
-- Assumes nothing.
use Prim.Native.Nat.{ℕ, zero, suc, ◌*◌, ◌-◌, ◌≤◌, ◌∣◌}
use mathlib.Core.List.{List, [], ◌∷◌}
use mathlib.Core.Logic.{◌↔◌}
use mathlib.Core.Path.{◌≡◌}
use native.Mathlib.Omega.{arith}
use lib.ListN.{get_or, take, drop}
use lib.Seq.{get_or-drop, get_or-take}
use Rattle.fraction.proofs.Terms.{lowest_of-lowest, lowest_of-ratio, lowest_of-zero}
use Rattle.fraction.specs.Fraction.{none}
use Rattle.octets.specs.Sum.{sum}
use Rattle.sheet.specs.Places.{frames_at, bad_checks_at, reports_end}
use Rattle.sheet_line.specs.Line.{reports_in, bad_checks_in, share}

get_d_sum : (xs : List ℕ) (i : ℕ) → get_or xs i 0 ≤ sum xs
unfolding sum
get_d_sum [] i = omega arith
get_d_sum (x ∷ xs) zero = omega arith
get_d_sum (x ∷ xs) (suc i) = omega (arith, get_d_sum xs i)

module _ (cs : List ℕ) where
  -- bad checks are among the reports
  pub bad_checks_among : bad_checks_in cs ≤ reports_in cs
  bad_checks_among =
      omega (
        arith,
        get_d_sum (drop frames_at (take reports_end cs)) (bad_checks_at - frames_at),
        get_or-drop frames_at (take reports_end cs) (bad_checks_at - frames_at) 0,
        get_or-take reports_end cs bad_checks_at 0 (omega arith),
      )

  -- in lowest terms: no number but 1 divides both
  pub share_lowest : (k : ℕ) → k ∣ (share cs).numerator → k ∣ (share cs).denominator → k ≡ 1
  unfolding share
  share_lowest = lowest_of-lowest (bad_checks_in cs) (reports_in cs)

  -- the same ratio as bad checks to all reports
  pub share_ratio : (share cs).numerator * reports_in cs ≡ (share cs).denominator * bad_checks_in cs
  unfolding share
  share_ratio = lowest_of-ratio (bad_checks_in cs) (reports_in cs)

  -- "0/1" exactly where there is no bad check
  pub share_none : (share cs ≡ none) ↔ (bad_checks_in cs ≡ 0)
  unfolding share
  share_none = lowest_of-zero (bad_checks_in cs) (reports_in cs)

  -- and so where nothing was reported
  pub share_unreported : reports_in cs ≡ 0 → share cs ≡ none
  share_unreported h = share_none.1 (omega (arith, bad_checks_among))
