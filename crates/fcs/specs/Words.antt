-- Several octets at once. Cited by the private functions of fcs alone. Assumes nothing.
use Rattle.std.specs.Prelude.{List, [], ◌∷◌, ℕ, zero, suc, ◌+◌, ◌*◌, ◌/◌, ◌%◌}
use Rattle.fcs.specs.Fcs.{reduce_if}

-- the register after one bit that was added to its lowest bit before
unfoldable pub shift_bit : ℕ → ℕ
shift_bit c = reduce_if (c % 2) (c / 2)

-- the register after k such bits
unfoldable pub shift_bits : ℕ → ℕ → ℕ
shift_bits zero c = c
shift_bits (suc k) c = shift_bits k (shift_bit c)

-- octets as one number, the first lowest
unfoldable pub little_endian : List ℕ → ℕ
little_endian [] = 0
little_endian (x ∷ xs) = x + little_endian xs * 256
