-- A fraction in lowest terms: its two cases, that no number but 1 divides both, that it is the same ratio, and where it is 0/1. Assumes nothing.
use Prim.Native.Nat.{ℕ, ◌*◌, ◌/◌, ◌<◌, ◌∣◌}
use mathlib.Core.Logic.{◌↔◌}
use mathlib.Core.Path.{◌≡◌, refl, sym, ap, ◌∙◌, subst}
use native.Mathlib.Nat.{zero-mul, one-mul, div-mul_cancel, mul-dvd-mul_right, dvd_of_mul-dvd-mul_right, eq-one_of_dvd-one}
use native.Mathlib.Omega.{arith}
use borrow.Author.Tests.{eqb-true, eqb-false}
use lib.Dec.{eqb}
use Rattle.common.proofs.Bools.{either}
use Rattle.fraction.proofs.Divisors.{gcd_divides, gcd_greatest, gcd_some}
use Rattle.fraction.specs.Fraction.{gcd, none, lowest_of}
use Rattle.fraction.specs.declared.Fraction.{Fraction}

-- n/d with both divided by their greatest common divisor, which is some number where n is
module _ (n d : ℕ) (some : n ≡ 0 → ⊥) where
  divisor_some : 0 < gcd n d
  divisor_some = gcd_some n d (omega arith)

  numerator_back : n / gcd n d * gcd n d ≡ n
  numerator_back = div-mul_cancel (gcd n d) (gcd_divides n d).0

  denominator_back : d / gcd n d * gcd n d ≡ d
  denominator_back = div-mul_cancel (gcd n d) (gcd_divides n d).1

  divided_lowest : (k : ℕ) → k ∣ n / gcd n d → k ∣ d / gcd n d → k ≡ 1
  divided_lowest k h i =
      let a : k * gcd n d ∣ n = subst (λ (x : ℕ). k * gcd n d ∣ x) numerator_back (mul-dvd-mul_right k h (gcd n d)) in
      let b : k * gcd n d ∣ d = subst (λ (x : ℕ). k * gcd n d ∣ x) denominator_back (mul-dvd-mul_right k i (gcd n d)) in
      let e : k * gcd n d ∣ 1 * gcd n d = subst (λ (x : ℕ). k * gcd n d ∣ x) (sym (one-mul (gcd n d))) (gcd_greatest n d (k * gcd n d) a b) in
      eq-one_of_dvd-one (dvd_of_mul-dvd-mul_right k divisor_some e)

  divided_ratio : n / gcd n d * d ≡ d / gcd n d * n
  divided_ratio =
      ap (λ (x : ℕ). n / gcd n d * x) (sym denominator_back)
      ∙ omega arith
      ∙ ap (λ (x : ℕ). d / gcd n d * x) numerator_back

  divided_some : n / gcd n d ≡ 0 → ⊥
  divided_some h =
      let z : 0 * gcd n d ≡ n = ap (λ (x : ℕ). x * gcd n d) (sym h) ∙ numerator_back in
      some (sym z ∙ zero-mul (gcd n d))

-- what holds of 0/1 where n is 0, and else of the two numbers divided, holds of the fraction in lowest terms
pub lowest_of-ind : (n d : ℕ) (P : Fraction → Type 0) → (n ≡ 0 → P none) → ((n ≡ 0 → ⊥) → P (record { numerator = n / gcd n d; denominator = d / gcd n d })) → P (lowest_of n d)
unfolding lowest_of
lowest_of-ind n d P a b = either P (eqb n 0) (λ e. a (eqb-true n 0 e)) (λ e. b (eqb-false n 0 e))

module _ (n d : ℕ) where
  -- its two cases
  pub lowest_of-none : n ≡ 0 → lowest_of n d ≡ none
  lowest_of-none h = lowest_of-ind n d (λ (f : Fraction). f ≡ none) (λ _. refl) (λ s. absurd (s h))

  pub lowest_of-some : (g : ℕ) → (n ≡ 0 → ⊥) → g ≡ gcd n d → lowest_of n d ≡ record { numerator = n / g; denominator = d / g }
  lowest_of-some g s e = lowest_of-ind n d (λ (f : Fraction). f ≡ record { numerator = n / g; denominator = d / g }) (λ h. absurd (s h)) (λ _. rw e)

  -- "in lowest terms": no number but 1 divides both
  pub lowest_of-lowest : (k : ℕ) → k ∣ (lowest_of n d).numerator → k ∣ (lowest_of n d).denominator → k ≡ 1
  lowest_of-lowest =
      lowest_of-ind n d (λ (f : Fraction). (k : ℕ) → k ∣ f.numerator → k ∣ f.denominator → k ≡ 1)
      (λ _ k h i. eq-one_of_dvd-one i)
      (λ s. divided_lowest n d s)

  -- the same ratio as n to d
  pub lowest_of-ratio : (lowest_of n d).numerator * d ≡ (lowest_of n d).denominator * n
  lowest_of-ratio =
      lowest_of-ind n d (λ (f : Fraction). f.numerator * d ≡ f.denominator * n)
      (λ h. omega arith)
      (λ s. divided_ratio n d s)

  -- "0/1" exactly where n is 0
  pub lowest_of-zero : (lowest_of n d ≡ none) ↔ (n ≡ 0)
  lowest_of-zero = (
    lowest_of-ind n d (λ (f : Fraction). f ≡ none → n ≡ 0)
        (λ h _. h)
        (λ s e. absurd (divided_some n d s (ap (λ (f : Fraction). f.numerator) e))),
    lowest_of-none,
  )
