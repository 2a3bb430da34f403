-- Laws of the sums. Assumes nothing.
use Rattle.std.proofs.Common.{◌≡◌, ℕ, ◌+◌, ◌<◌, ◌≤◌, Bool, true, false, cond, eqb, List, [], ◌∷◌, ◌++◌, length, get_or, drop, refl, add-one, arith, drop_of_length-le, drop-cons}
use borrow.Author.Tests.{eqb-false}
use Rattle.sums.specs.Sum.{end_around_add, sum_from, header_sum}

-- feeding two parts one after the other is feeding the whole
pub sum-++ : (s : ℕ) (xs ys : List ℕ) → sum_from s (xs ++ ys) ≡ sum_from (sum_from s xs) ys
unfolding sum_from
sum-++ s [] ys = refl
sum-++ s (x ∷ xs) ys = sum-++ (end_around_add s x) xs ys

-- the loop of afp_sum: one octet more, and nothing left
pub sum_drop : (s : ℕ) (xs : List ℕ) (i : ℕ) → i < length xs → sum_from s (drop i xs) ≡ sum_from (end_around_add s (get_or xs i 0)) (drop (i + 1) xs)
unfolding sum_from
sum_drop s xs i h = rw (add-one, drop-cons xs i 0)

pub sum_done : (s : ℕ) (xs : List ℕ) (i : ℕ) → length xs ≤ i → sum_from s (drop i xs) ≡ s
unfolding sum_from
sum_done s xs i h = rw (drop_of_length-le xs h)

pub sum_none : (s : ℕ) (xs : List ℕ) → length xs ≡ 0 → sum_from s xs ≡ s
unfolding sum_from
sum_none s [] h = refl
sum_none s (x ∷ xs) h = absurd (omega arith)

-- a calculated header sum is never taken for one that was not calculated
pub header_calculated : (xs : List ℕ) → header_sum xs ≡ 0 → ⊥
unfolding header_sum
header_calculated xs = by (sum_from 0 xs) (eqb (sum_from 0 xs) 0) refl
  where
    by : (v : ℕ) (b : Bool) → eqb v 0 ≡ b → cond b 0xFF v ≡ 0 → ⊥
    by v true i e = omega arith
    by v false i e = eqb-false v 0 i e
