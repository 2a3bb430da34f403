-- Laws of the greatest common divisor: it divides both numbers, and what divides both divides it. Assumes nothing.
use Prim.Native.Nat.{ℕ, zero, suc, ◌%◌, ◌≤◌, ◌<◌, ◌∣◌}
use mathlib.Core.Path.{◌≡◌, refl}
use native.Mathlib.Nat.{dvd_refl, dvd-zero, dvd-mod_iff, mod-lt, pos_of_dvd_of_pos}
use native.Mathlib.Omega.{arith}
use Rattle.fraction.specs.Fraction.{gcd_within, gcd}

-- a remainder is below the divisor
left_fits : (k a b : ℕ) → suc b ≤ suc k → a % suc b ≤ k
left_fits k a b h = omega (arith, mod-lt a {m = suc b} (omega arith))

-- where there are steps enough, their number says nothing
gcd_within-enough : (j k a b : ℕ) → b ≤ j → b ≤ k → gcd_within j a b ≡ gcd_within k a b
unfolding gcd_within
gcd_within-enough zero zero a b h i = refl
gcd_within-enough zero (suc k) a zero h i = refl
gcd_within-enough zero (suc k) a (suc b) h i = absurd (omega arith)
gcd_within-enough (suc j) zero a zero h i = refl
gcd_within-enough (suc j) zero a (suc b) h i = absurd (omega arith)
gcd_within-enough (suc j) (suc k) a zero h i = refl
gcd_within-enough (suc j) (suc k) a (suc b) h i = gcd_within-enough j k (suc b) (a % suc b) (left_fits j a b h) (left_fits k a b i)

-- one step, and the last
pub gcd_next : (a b : ℕ) → 0 < b → gcd a b ≡ gcd b (a % b)
unfolding gcd gcd_within
gcd_next a zero h = absurd (omega arith)
gcd_next a (suc b) h = gcd_within-enough b (a % suc b) (suc b) (a % suc b) (left_fits b a b (omega arith)) (omega arith)

pub gcd_end : (a b : ℕ) → b ≤ 0 → gcd a b ≡ a
unfolding gcd gcd_within
gcd_end a zero h = refl
gcd_end a (suc b) h = absurd (omega arith)

gcd_within-divides : (k a b : ℕ) → b ≤ k → (gcd_within k a b ∣ a) × (gcd_within k a b ∣ b)
unfolding gcd_within
gcd_within-divides zero a zero h = (dvd_refl a, dvd-zero a)
gcd_within-divides zero a (suc b) h = absurd (omega arith)
gcd_within-divides (suc k) a zero h = (dvd_refl a, dvd-zero a)
gcd_within-divides (suc k) a (suc b) h =
    let d = gcd_within-divides k (suc b) (a % suc b) (left_fits k a b h) in
    ((dvd-mod_iff _ d.0).0 d.1, d.0)

gcd_within-greatest : (c k a b : ℕ) → c ∣ a → c ∣ b → c ∣ gcd_within k a b
unfolding gcd_within
gcd_within-greatest c zero a b h i = h
gcd_within-greatest c (suc k) a zero h i = h
gcd_within-greatest c (suc k) a (suc b) h i = gcd_within-greatest c k (suc b) (a % suc b) i ((dvd-mod_iff c i).1 h)

module _ (a b : ℕ) where
  pub gcd_divides : (gcd a b ∣ a) × (gcd a b ∣ b)
  unfolding gcd
  gcd_divides = gcd_within-divides b a b (omega arith)

  pub gcd_greatest : (c : ℕ) → c ∣ a → c ∣ b → c ∣ gcd a b
  unfolding gcd
  gcd_greatest c h i = gcd_within-greatest c b a b h i

  pub gcd_some : 0 < a → 0 < gcd a b
  gcd_some h = pos_of_dvd_of_pos gcd_divides.0 h
