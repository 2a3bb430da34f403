-- The frame check sequence of ISO 3309: generator x^16 + x^12 + x^5 + 1, preset to ones, complemented.
-- Cited by fcs' code, and by reader and writer of AFP frames. Assumes nothing.
--
--   feed c x           the register c after the octet x
--   feed_all c xs       the register c after the octets xs
--   check_sequence xs   the check sequence of xs
--   check_octets xs     the same as the two octets that follow xs on the line
--
-- The register holds the remainder so far, the coefficient of x^15 in its lowest bit: octets go on the line low bit first,
-- and the first bit on the line is the highest coefficient.
use Rattle.std.specs.Prelude.{List, [], ◌∷◌, ℕ, zero, suc, ◌+◌, ◌-◌, ◌/◌, ◌%◌}
use Rattle.std.specs.Int.Bits.{bit_xor}

-- x^12 + x^5 + 1, the generator without x^16
abbrev pub generator : ℕ
generator = 0x8408

-- the register before the first octet: ones
abbrev pub preset : ℕ
preset = 0xFFFF

-- the register after any octets and their own check octets
abbrev pub residue : ℕ
residue = 0xF0B8

-- the generator taken off where the coefficient that left the register was 1
abbrev pub reduce_if : ℕ → ℕ → ℕ
reduce_if zero h = h
reduce_if (suc d) h = bit_xor h generator

-- the register after the lowest bit of x: its own lowest bit leaves it, and the two bits are added modulo 2
unfoldable pub feed_bit : ℕ → ℕ → ℕ
feed_bit c x = reduce_if ((c + x) % 2) (c / 2)

-- the register after the k lowest bits of x, lowest first
unfoldable pub feed_bits : ℕ → ℕ → ℕ → ℕ
feed_bits zero c x = c
feed_bits (suc k) c x = feed_bits k (feed_bit c x) (x / 2)

-- the register after one octet
unfoldable pub feed : ℕ → ℕ → ℕ
feed c x = feed_bits 8 c x

-- the register after a list of octets
unfoldable pub feed_all : ℕ → List ℕ → ℕ
feed_all c [] = c
feed_all c (x ∷ xs) = feed_all (feed c x) xs

-- the check sequence: the complement of the register
unfoldable pub check_sequence : List ℕ → ℕ
check_sequence xs = 0xFFFF - feed_all preset xs

-- the two check octets as they stand on the line: the coefficient of x^15 first, so the low octet first
abbrev pub check_octets : List ℕ → List ℕ
check_octets xs = check_sequence xs % 256 ∷ check_sequence xs / 256 ∷ []
