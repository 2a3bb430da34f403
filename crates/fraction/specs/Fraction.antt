-- Fractions in lowest terms. Cited by `lowest`, and by the share that the line sheet prints. Assumes nothing.
--
--   gcd a b        the greatest number that divides both
--   lowest_of n d   n/d in lowest terms
use Rattle.std.specs.Prelude.{ℕ, zero, suc, ◌/◌, ◌%◌, cond, eqb}
use Rattle.fraction.specs.declared.Fraction.{Fraction}

-- Euclid's steps, at most k of them: where the second number is 0, the first
unfoldable pub gcd_within : (k a b : ℕ) → ℕ
gcd_within zero a b = a
gcd_within (suc k) a zero = a
gcd_within (suc k) a (suc b) = gcd_within k (suc b) (a % suc b)

-- the second number falls with each step, so that there are at most b of them
unfoldable pub gcd : (a b : ℕ) → ℕ
gcd a b = gcd_within b a b

-- "0/1"
abbrev pub none : Fraction
none = record { numerator = 0; denominator = 1 }

-- both numbers divided by the greatest that divides both; 0/1 where n is 0, whatever d is
unfoldable pub lowest_of : (n d : ℕ) → Fraction
lowest_of n d = cond (eqb n 0) none (record { numerator = n / gcd n d; denominator = d / gcd n d })
