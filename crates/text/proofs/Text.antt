-- Laws of numbers and octets as text. Assumes nothing.
use Prim.Native.Nat.{ℕ, zero, suc, ◌+◌, ◌*◌, ◌-◌, ◌/◌, ◌%◌, ◌≤◌, ◌<◌}
use mathlib.Core.List.{List, [], ◌∷◌}
use mathlib.Core.Path.{◌≡◌, refl, sym, ap, ap₂, ◌∙◌}
use native.Mathlib.Numerals.{add-one}
use native.Mathlib.Omega.{arith}
use borrow.Author.Tests.{eq-eqb, ne_eqb}
use lib.Dec.{eqb}
use lib.ListN.{length, get_or, drop, set, drop_of_length-le}
use lib.Seq.{sets, drop-cons, get_or-set_same, drop-set-lt, lt-length-set}
use Rattle.common.proofs.Bools.{either}
use Rattle.text.specs.Text.{digit, decimal_onto, max_digits, decimal, hex_digit, hex}

pub length-hex : (xs : List ℕ) → length (hex xs) ≡ 2 * length xs
unfolding hex
length-hex [] = refl
length-hex (x ∷ xs) = omega (arith, length-hex xs)

-- a loop that stands at octet i
module _ (xs : List ℕ) (i : ℕ) where
  pub hex_end : length xs ≤ i → hex (drop i xs) ≡ []
  unfolding hex
  hex_end h = rw (drop_of_length-le xs h)

  pub hex_next : i < length xs → hex (drop i xs) ≡ hex_digit (get_or xs i 0 / 16) ∷ hex_digit (get_or xs i 0 % 16) ∷ hex (drop (i + 1) xs)
  unfolding hex
  hex_next h = rw (add-one i, drop-cons xs i 0 h)

-- one digit more, from the last to the first
module _ (k n : ℕ) (t : List ℕ) where
  pub decimal_onto-more : (n / 10 ≡ 0 → ⊥) → decimal_onto (suc k) n t ≡ decimal_onto k (n / 10) (digit (n % 10) ∷ t)
  unfolding decimal_onto
  decimal_onto-more h = rw (ne_eqb (n / 10) 0 h)

  pub decimal_onto-last : n / 10 ≡ 0 → decimal_onto (suc k) n t ≡ digit (n % 10) ∷ t
  unfolding decimal_onto
  decimal_onto-last h = rw (eq-eqb (n / 10) 0 h)

length-decimal_onto : (k n : ℕ) (t : List ℕ) → length (decimal_onto k n t) ≤ k + length t
unfolding decimal_onto
length-decimal_onto zero n t = omega arith
length-decimal_onto (suc k) n t =
    either (λ (u : List ℕ). length u ≤ suc k + length t) (eqb (n / 10) 0) (λ _. omega arith) (λ _. omega (arith, length-decimal_onto k (n / 10) (digit (n % 10) ∷ t)))

pub length-decimal : (n : ℕ) → length (decimal n) ≤ max_digits
unfolding decimal
length-decimal n = omega (arith, length-decimal_onto max_digits n [])

drop-set : (j v : ℕ) (l : List ℕ) → j < length l → drop j (set l j v) ≡ v ∷ drop (suc j) l
drop-set j v l h =
    drop-cons (set l j v) j 0 (lt-length-set l j v h)
    ∙ ap₂ (λ (a : ℕ) (s : List ℕ). a ∷ s) (get_or-set_same l j v 0 h) (drop-set-lt (suc j) l j v (omega arith))

-- a loop that spells n from the last digit on: the digits from index i on are there, and left is to come before them
module _ (n left i : ℕ) (digits : List ℕ) (some : 0 < i) (most : i ≤ max_digits) (long : length digits ≡ max_digits)
    (inv : decimal_onto i left (drop i digits) ≡ decimal n) where
  one_more : drop (i - 1) (set digits (i - 1) (digit (left % 10))) ≡ digit (left % 10) ∷ drop i digits
  one_more =
      let e : suc (i - 1) ≡ i = omega arith in
      drop-set (i - 1) (digit (left % 10)) digits (omega arith) ∙ ap (λ (k : ℕ). digit (left % 10) ∷ drop k digits) e

  here : decimal_onto (suc (i - 1)) left (drop i digits) ≡ decimal n
  here = let e : suc (i - 1) ≡ i = omega arith in ap (λ (k : ℕ). decimal_onto k left (drop i digits)) e ∙ inv

  pub spell_more : (left / 10 ≡ 0 → ⊥) → decimal_onto (i - 1) (left / 10) (drop (i - 1) (set digits (i - 1) (digit (left % 10)))) ≡ decimal n
  spell_more h =
      ap (decimal_onto (i - 1) (left / 10)) one_more ∙ sym (decimal_onto-more (i - 1) left (drop i digits) h) ∙ here

  pub spell_last : left / 10 ≡ 0 → drop (i - 1) (set digits (i - 1) (digit (left % 10))) ≡ decimal n
  spell_last h = one_more ∙ sym (decimal_onto-last (i - 1) left (drop i digits) h) ∙ here

-- no place left
pub spell_end : (n left i : ℕ) (digits : List ℕ) → i ≤ 0 → decimal_onto i left (drop i digits) ≡ decimal n → digits ≡ decimal n
unfolding decimal_onto
spell_end n left i digits h inv = let e : i ≡ 0 = omega arith in sym (ap (λ (k : ℕ). decimal_onto k left (drop k digits)) e) ∙ inv

-- the two digits of one octet
module _ (out : List ℕ) (to a b : ℕ) (rest xs : List ℕ) (e : xs ≡ a ∷ b ∷ rest) where
  pub sets-pair : sets out to xs ≡ sets (set (set out to a) (to + 1) b) (to + 2) rest
  sets-pair = let z : to + 2 ≡ suc (suc to) = omega arith in rw (e, z, add-one to)
