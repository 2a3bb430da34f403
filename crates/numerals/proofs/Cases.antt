-- Worked numbers. Assumes nothing.
use mathlib.Core.List.{[]}
use mathlib.Core.Path.{◌≡◌, refl}
use Rattle.std.specs.Prelude.{Some, None}
use Rattle.numerals.specs.Number.{all_digits, value_from, typed_from, typed_of}
use Rattle.text.specs.Text.{ascii}

last_line : typed_of (ascii "63") ≡ Some 63
unfolding typed_of typed_from value_from all_digits
last_line = refl

-- zeros in front change nothing
zeros : typed_of (ascii "0000000000000000000000003") ≡ Some 3
unfolding typed_of typed_from value_from all_digits
zeros = refl

largest : typed_of (ascii "18446744073709551615") ≡ Some 18446744073709551615
unfolding typed_of typed_from value_from all_digits
largest = refl

-- what has no room in 64 bits is no number, though it is 3 in fewer
too_large : typed_of (ascii "18446744073709551619") ≡ None
unfolding typed_of typed_from value_from all_digits
too_large = refl

nothing : typed_of [] ≡ None
unfolding typed_of
nothing = refl

signed : typed_of (ascii "-1") ≡ None
unfolding typed_of typed_from value_from all_digits
signed = refl

with_a_letter : typed_of (ascii "1x") ≡ None
unfolding typed_of typed_from value_from all_digits
with_a_letter = refl
