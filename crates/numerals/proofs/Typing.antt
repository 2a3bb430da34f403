-- Laws of numbers as they are typed: a loop that stands at octet i, with the number n before it. Assumes nothing.
use Prim.Native.Nat.{ℕ, ◌+◌, ◌*◌, ◌-◌, ◌^◌, ◌≤◌, ◌<◌}
use mathlib.Core.List.{List, [], ◌∷◌}
use Rattle.std.proofs.Common.{inl, inr, false, eqb}
use mathlib.Core.Path.{◌≡◌, refl, sym, ap, ◌∙◌}
use native.Mathlib.Numerals.{add-one}
use native.Mathlib.Omega.{arith}
use borrow.Author.Tests.{lt-ltb, le-ltb, le-leb, lt-leb}
use lib.ListN.{length, get_or, drop, drop_of_length-le}
use lib.Seq.{drop-cons}
use Rattle.common.proofs.Bools.{and_false}
use Rattle.std.specs.Prelude.{Some, None}
use Rattle.std.specs.Char.{IsAsciiDigit, IsNotAsciiDigit}
use Rattle.numerals.specs.Number.{all_digits, value_from, typed_from, typed_of}

-- digits make a number no smaller
value_from-grows : (xs : List ℕ) (n : ℕ) → n ≤ value_from n xs
unfolding value_from
value_from-grows [] n = omega arith
value_from-grows (x ∷ xs) n = omega (arith, value_from-grows xs (n * 10 + (x - 48)))

module _ (n x : ℕ) (xs : List ℕ) where
  low : x < 48 → typed_from n (x ∷ xs) ≡ None
  unfolding typed_from all_digits
  low h = rw (lt-leb 48 x h)

  high : 57 < x → typed_from n (x ∷ xs) ≡ None
  unfolding typed_from all_digits
  high h = rw (lt-leb x 57 h, and_false)

  other : IsNotAsciiDigit x → typed_from n (x ∷ xs) ≡ None
  other (inl k) = low k
  other (inr k) = high k

  over : 2 ^ 64 ≤ n * 10 + (x - 48) → typed_from n (x ∷ xs) ≡ None
  unfolding typed_from value_from
  over h = rw (le-ltb (value_from (n * 10 + (x - 48)) xs) (2 ^ 64) (omega (arith, value_from-grows xs (n * 10 + (x - 48)))), and_false)

  on : 48 ≤ x → x ≤ 57 → typed_from n (x ∷ xs) ≡ typed_from (n * 10 + (x - 48)) xs
  unfolding typed_from value_from all_digits
  on h k = rw (le-leb 48 x h, le-leb x 57 k)

module _ (xs : List ℕ) (n i : ℕ) (h : i < length xs) where
  here : drop i xs ≡ get_or xs i 0 ∷ drop (i + 1) xs
  here = drop-cons xs i 0 h ∙ rw (add-one i)

  pub typed_other : IsNotAsciiDigit (get_or xs i 0) → typed_from n (drop i xs) ≡ None
  typed_other k = ap (typed_from n) here ∙ other n _ _ k

  pub typed_over : IsAsciiDigit (get_or xs i 0) → 2 ^ 64 ≤ n * 10 + (get_or xs i 0 - 48) → typed_from n (drop i xs) ≡ None
  typed_over d k = ap (typed_from n) here ∙ over n _ _ k

  pub typed_next : (m : ℕ) → IsAsciiDigit (get_or xs i 0) → m ≡ n * 10 + (get_or xs i 0 - 48) → typed_from m (drop (i + 1) xs) ≡ typed_from n (drop i xs)
  typed_next m d e = ap (λ (k : ℕ). typed_from k (drop (i + 1) xs)) e ∙ sym (ap (typed_from n) here ∙ on n _ _ d.0 d.1)

pub typed_end : (xs : List ℕ) (n i : ℕ) → length xs ≤ i → n < 2 ^ 64 → typed_from n (drop i xs) ≡ Some n
unfolding typed_from value_from all_digits
typed_end xs n i h k = rw (drop_of_length-le xs h, lt-ltb n (2 ^ 64) k)

pub typed_empty : (xs : List ℕ) → length xs ≡ 0 → typed_of xs ≡ None
unfolding typed_of
typed_empty [] h = refl
typed_empty (x ∷ xs) h = absurd (omega arith)

pub typed_some : (xs : List ℕ) → eqb (length xs) 0 ≡ false → typed_from 0 xs ≡ typed_of xs
unfolding typed_of
typed_some [] h = cc h
typed_some (x ∷ xs) h = refl
