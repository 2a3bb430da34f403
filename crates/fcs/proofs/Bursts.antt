-- A change within sixteen bits in a row is never lost: two lists of octets that differ in nothing else leave different registers. Assumes nothing.
use Prim.Native.Nat.{ℕ, zero, suc, ◌+◌, ◌-◌, ◌*◌, ◌^◌}
use mathlib.Core.List.{List}
use mathlib.Core.Path.{◌≡◌, refl, sym, ap, ◌∙◌}
use native.Mathlib.Omega.{arith}
use lib.Bits.{bit_xor, xor_self, xor_zero_l}
use lib.Dec.{lit<}
use lib.ListN.{length}
use Rattle.common.proofs.Xor.{xor_exchange}
use Rattle.fcs.specs.Bursts.{Burst}
use Rattle.fcs.specs.Fcs.{feed_all}
use Rattle.fcs.specs.Words.{shift_bit, shift_bits, little_endian}
use Rattle.fcs.proofs.Register.{Octets, shifts_linear, shifts_injective, shifts_+, shifts_moved, feeds_word}

-- nothing comes of nothing
shifts_zero : (k : ℕ) → shift_bits k 0 ≡ 0
unfolding shift_bits shift_bit
shifts_zero zero = refl
shifts_zero (suc k) = shifts_zero k

module _ (c : ℕ) (xs ys : List ℕ) (ox : Octets xs) (oy : Octets ys) (b : Burst xs ys) where
  -- all octets as one number, added to the register, and the registers' difference
  abbrev bits : ℕ
  bits = 8 * length xs

  difference : bit_xor (bit_xor c (little_endian xs)) (bit_xor c (little_endian ys)) ≡ b.pattern * 2 ^ b.at
  difference =
      xor_exchange c (little_endian xs) c (little_endian ys)
      ∙ ap (λ (z : ℕ). bit_xor z (bit_xor (little_endian xs) (little_endian ys))) (xor_self c)
      ∙ xor_zero_l (bit_xor (little_endian xs) (little_endian ys))
      ∙ b.changed

  -- the pattern is moved down and then shifted on, as a register is
  pattern_shifted : shift_bits bits (b.pattern * 2 ^ b.at) ≡ shift_bits (bits - b.at) b.pattern
  pattern_shifted =
      let n : bits ≡ b.at + (bits - b.at) = omega (arith, b.inside) in
      ap (λ (k : ℕ). shift_bits k (b.pattern * 2 ^ b.at)) n
      ∙ shifts_+ b.at (bits - b.at) (b.pattern * 2 ^ b.at)
      ∙ ap (shift_bits (bits - b.at)) (shifts_moved b.at b.pattern)

  pub burst_told : feed_all c xs ≡ feed_all c ys → ⊥
  burst_told e =
      let wx = feeds_word c xs ox in
      let wy : feed_all c ys ≡ shift_bits bits (bit_xor c (little_endian ys)) = feeds_word c ys oy ∙ ap (λ (n : ℕ). shift_bits (8 * n) (bit_xor c (little_endian ys))) b.as_many in
      let same : shift_bits bits (bit_xor c (little_endian xs)) ≡ shift_bits bits (bit_xor c (little_endian ys)) = sym wx ∙ e ∙ wy in
      let none : shift_bits (bits - b.at) b.pattern ≡ 0 =
      sym pattern_shifted
      ∙ ap (shift_bits bits) (sym difference)
      ∙ shifts_linear bits (bit_xor c (little_endian xs)) (bit_xor c (little_endian ys))
      ∙ ap (λ (z : ℕ). bit_xor z (shift_bits bits (bit_xor c (little_endian ys)))) same
      ∙ xor_self (shift_bits bits (bit_xor c (little_endian ys))) in
      let zero_pattern : b.pattern ≡ 0 = shifts_injective (bits - b.at) b.pattern 0 b.sixteen (lit< tt) (none ∙ sym (shifts_zero (bits - b.at))) in
      omega (arith, zero_pattern, b.some)
