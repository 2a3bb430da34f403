-- Published values of the check sequence (CRC-16/X-25), by computation. Assumes nothing.
use mathlib.Core.Path.{◌≡◌, refl}
use mathlib.Core.List.{[], ◌∷◌}
use Rattle.fcs.specs.Fcs.{feed_bit, feed_bits, feed, feed_all, check_sequence, check_octets}

-- "123456789": 906E, so 6E 90 on the line
pub worked_digits : check_octets (0x31 ∷ 0x32 ∷ 0x33 ∷ 0x34 ∷ 0x35 ∷ 0x36 ∷ 0x37 ∷ 0x38 ∷ 0x39 ∷ []) ≡ 0x6E ∷ 0x90 ∷ []
unfolding check_sequence feed_all feed feed_bits feed_bit
worked_digits = refl
