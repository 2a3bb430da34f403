-- Laws of sums count by count, and of a loop over them that stands at count i. Assumes nothing.
use Prim.Native.Nat.{ℕ, suc, ◌+◌, ◌≤◌, ◌<◌}
use mathlib.Core.Bool.{Bool, true, false, ◌&&◌}
use mathlib.Core.List.{List, [], ◌∷◌, ◌++◌}
use mathlib.Core.Path.{◌≡◌, refl, sym, ap, ◌∙◌}
use native.Mathlib.Numerals.{add-one}
use native.Mathlib.Omega.{arith}
use borrow.Author.Tests.{le-leb, lt-leb}
use lib.ListN.{length, get_or, set, drop, drop_of_length-le}
use lib.Seq.{drop-cons, sets, sets-eq}
use Rattle.sheet.specs.Limits.{max_count}
use Rattle.sheet_tally.specs.Adding.{sums, all_fit}

pub length-sums : (xs ys : List ℕ) → length xs ≡ length ys → length (sums xs ys) ≡ length xs
unfolding sums
length-sums [] ys e = refl
length-sums (x ∷ xs) [] e = omega (arith, e)
length-sums (x ∷ xs) (y ∷ ys) e = ap suc (length-sums xs ys (omega (arith, e)))

append-nil : (l : List ℕ) → l ++ [] ≡ l
append-nil [] = refl
append-nil (x ∷ xs) = ap (λ (l : List ℕ). x ∷ l) (append-nil xs)

-- the sums, put over the counts that were added to
pub sums_whole : (xs ys : List ℕ) → length xs ≡ length ys → sets xs 0 (sums xs ys) ≡ sums xs ys
sums_whole xs ys e =
    let l = length-sums xs ys e in
    sets-eq (sums xs ys) xs 0 (omega (arith, l)) ∙ ap (λ (r : List ℕ). sums xs ys ++ r) (drop_of_length-le xs {i = 0 + length (sums xs ys)} (omega (arith, l))) ∙ append-nil (sums xs ys)

-- the sums from count i on
abbrev pub rest : (xs ys : List ℕ) → ℕ → List ℕ
rest xs ys i = sums (drop i xs) (drop i ys)

module _ (xs ys : List ℕ) (i : ℕ) where
  module _ (h : i < length xs) (k : i < length ys) where
    rest_next : rest xs ys i ≡ (get_or xs i 0 + get_or ys i 0) ∷ rest xs ys (i + 1)
    unfolding sums
    rest_next = rw (add-one, drop-cons xs i 0 h, drop-cons ys i 0 k)

    pub fit_stops : max_count < get_or xs i 0 + get_or ys i 0 → all_fit (rest xs ys i) ≡ false
    unfolding all_fit
    fit_stops m = ap all_fit rest_next ∙ ap (λ (b : Bool). b && all_fit (rest xs ys (i + 1))) (lt-leb _ max_count m)

    pub fit_goes : get_or xs i 0 + get_or ys i 0 ≤ max_count → all_fit (rest xs ys (i + 1)) ≡ all_fit (rest xs ys i)
    unfolding all_fit
    fit_goes m = sym (ap all_fit rest_next ∙ ap (λ (b : Bool). b && all_fit (rest xs ys (i + 1))) (le-leb _ max_count m))

    pub sums_go : (l : List ℕ) (n : ℕ) → n ≡ get_or xs i 0 + get_or ys i 0 → sets (set l i n) (i + 1) (rest xs ys (i + 1)) ≡ sets l i (rest xs ys i)
    sums_go l n e = rw (rest_next, e, add-one)

  module _ (h : length xs ≤ i) where
    rest_end : rest xs ys i ≡ []
    unfolding sums
    rest_end = rw (drop_of_length-le xs h)

    pub fit_ends : all_fit (rest xs ys i) ≡ true
    unfolding all_fit
    fit_ends = rw rest_end

    pub sums_end : (l : List ℕ) → sets l i (rest xs ys i) ≡ l
    sums_end l = rw rest_end
