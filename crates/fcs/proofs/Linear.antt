-- Functions that respect `bit_xor`, such as shifts: two of them are equal below 2 ^ n where they are equal at n powers of two. Assumes nothing.
use mathlib.Core.Path.{◌≡◌, refl, sym, ap, ap₂, ◌∙◌}
use mathlib.Core.Bool.{Bool, true, false, ◌&&◌}
use Prim.Native.Nat.{ℕ, zero, suc, ◌-◌, ◌*◌, ◌/◌, ◌%◌, ◌^◌, ◌≤◌, ◌<◌}
use native.Mathlib.Nat.{pow-suc}
use native.Mathlib.Omega.{arith}
use borrow.Author.Tests.{ltb-true, ltb-false, eqb-true, eqb-false}
use lib.Arith.{lt-one}
use lib.Bits.{bit_xor, xor_shr, xor_mod, xor_self, xor_shifted}
use lib.Dec.{T, ltb, eqb, eqb→eq}
use Rattle.common.proofs.Bools.{and_left, and_right}
use Rattle.common.proofs.Xor.{xor_exchange, xor_shl}

abbrev pub Linear : (ℕ → ℕ) → Type 0
Linear f = (a b : ℕ) → f (bit_xor a b) ≡ bit_xor (f a) (f b)

-- ---- what is linear
pub linear_id : Linear (λ x. x)
linear_id a b = refl

pub linear_xor : (f g : ℕ → ℕ) → Linear f → Linear g → Linear (λ x. bit_xor (f x) (g x))
linear_xor f g hf hg a b = ap₂ bit_xor (hf a b) (hg a b) ∙ xor_exchange (f a) (f b) (g a) (g b)

pub linear_∘ : (f g : ℕ → ℕ) → Linear f → Linear g → Linear (λ x. f (g x))
linear_∘ f g hf hg a b = ap f (hg a b) ∙ hf (g a) (g b)

-- a shift up in a word of n bits, and a shift down
pub linear_shl : (n k : ℕ) → Linear (λ x. x * 2 ^ k % 2 ^ n)
linear_shl n k a b = ap (λ (x : ℕ). x % 2 ^ n) (sym (xor_shl k a b)) ∙ xor_mod (a * 2 ^ k) (b * 2 ^ k) n

pub linear_shr : (k : ℕ) → Linear (λ x. x / 2 ^ k)
linear_shr k a b = xor_shr a b k

pub linear_zero : (f : ℕ → ℕ) → Linear f → f 0 ≡ 0
linear_zero f h = h 0 0 ∙ xor_self (f 0)

-- ---- equal at the powers of two
-- a test of each number below n, which antt computes
unfoldable pub below : ℕ → (ℕ → Bool) → Bool
below zero f = true
below (suc n) f = f n && below n f

below_each : (n : ℕ) (f : ℕ → Bool) → T (below n f) → (i : ℕ) → i < n → T (f i)
unfolding below
below_each zero f t i h = absurd (omega arith)
below_each (suc n) f t i h = by (eqb i n) refl (below_each n f (and_right (f n) (below n f) t) i)
  where
    by : (b : Bool) → eqb i n ≡ b → (i < n → T (f i)) → T (f i)
    by true e rec = rw (eqb-true i n e) (and_left (f n) (below n f) t)
    by false e rec = rec (omega (arith, eqb-false i n e))

module _ (f g : ℕ → ℕ) (hf : Linear f) (hg : Linear g) where
  linear_agree : (n : ℕ) → ((i : ℕ) → i < n → f (2 ^ i) ≡ g (2 ^ i)) → (x : ℕ) → x < 2 ^ n → f x ≡ g x
  linear_agree zero e x h = ap f (lt-one h) ∙ linear_zero f hf ∙ sym (linear_zero g hg) ∙ ap g (sym (lt-one h))
  linear_agree (suc n) e x h = by (ltb x (2 ^ n)) refl (linear_agree n (λ i l. e i (omega arith)))
    where
      by : (b : Bool) → ltb x (2 ^ n) ≡ b → ((x : ℕ) → x < 2 ^ n → f x ≡ g x) → f x ≡ g x
      by true i rec = rec x (ltb-true x (2 ^ n) i)
      by false i rec =
          let p : 2 ^ suc n ≡ 2 ^ n * 2 = pow-suc 2 n in
          let l : 2 ^ n ≤ x = ltb-false x (2 ^ n) i in
          let r : x - 2 ^ n < 2 ^ n = omega arith in
          let o : 1 * 2 ^ n ≡ 2 ^ n = omega arith in
          let s : bit_xor (2 ^ n) (x - 2 ^ n) ≡ x = ap (λ (y : ℕ). bit_xor y (x - 2 ^ n)) (sym o) ∙ xor_shifted 1 n (x - 2 ^ n) r ∙ omega arith in
          ap f (sym s) ∙ hf (2 ^ n) (x - 2 ^ n)
          ∙ ap₂ bit_xor (e n (omega arith)) (rec (x - 2 ^ n) r)
          ∙ sym (hg (2 ^ n) (x - 2 ^ n)) ∙ ap g s

  -- the same by one computed test
  pub linear_equal : (n : ℕ) → T (below n (λ i. eqb (f (2 ^ i)) (g (2 ^ i)))) → (x : ℕ) → x < 2 ^ n → f x ≡ g x
  linear_equal n t = linear_agree n (λ i h. eqb→eq (f (2 ^ i)) (g (2 ^ i)) (below_each n (λ i. eqb (f (2 ^ i)) (g (2 ^ i))) t i h))
