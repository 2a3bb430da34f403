-- Fractions in lowest terms, worked. Assumes nothing.
use mathlib.Core.Path.{◌≡◌, refl}
use Rattle.fraction.specs.Fraction.{gcd_within, gcd, none, lowest_of}

six_of_nine : lowest_of 6 9 ≡ record { numerator = 2; denominator = 3 }
unfolding lowest_of gcd gcd_within
six_of_nine = refl

all_of_five : lowest_of 5 5 ≡ record { numerator = 1; denominator = 1 }
unfolding lowest_of gcd gcd_within
all_of_five = refl

-- eleven steps
many_steps : lowest_of 89 144 ≡ record { numerator = 89; denominator = 144 }
unfolding lowest_of gcd gcd_within
many_steps = refl

-- full counts of a line sheet: one kind in five
one_in_five : lowest_of 4294967295 21474836475 ≡ record { numerator = 1; denominator = 5 }
unfolding lowest_of gcd gcd_within
one_in_five = refl

none_of_none : lowest_of 0 0 ≡ none
unfolding lowest_of
none_of_none = refl

none_of_nine : lowest_of 0 9 ≡ none
unfolding lowest_of
none_of_nine = refl
