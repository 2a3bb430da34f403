-- A change within sixteen bits in a row. Cited by the laws on what the check sequence detects. Assumes nothing.
use Rattle.std.specs.Prelude.{ℕ, ◌*◌, ◌^◌, ◌≤◌, ◌<◌, List, ◌≡◌, length}
use Rattle.std.specs.Int.Bits.{bit_xor}
use Rattle.fcs.specs.Words.{little_endian}

-- the octets ys are as many as xs, and differ from them in bits that the pattern has, which is moved up by `at` bits and has at most sixteen. Bits are counted
-- in their order on the line, the first octet's lowest first: as numbers with the first octet lowest, the two differ by the pattern
pub record Burst (xs ys : List ℕ) : Type 0 where
  pub pattern : ℕ
  pub at : ℕ
  pub some : 0 < pattern
  pub sixteen : pattern < 2 ^ 16
  pub inside : at ≤ 8 * length xs
  pub as_many : length ys ≡ length xs
  pub changed : bit_xor (little_endian xs) (little_endian ys) ≡ pattern * 2 ^ at
