-- What the check sequence detects. After octets and their own check octets the register is the residue, and after no other two octets;
-- a change of the register or of an octet is never lost. Assumes nothing.
use mathlib.Core.Path.{◌≡◌, sym, ap, ap₂, ◌∙◌}
use mathlib.Core.List.{List, [], ◌∷◌, ◌++◌}
use Prim.Native.Nat.{ℕ, zero, suc, ◌+◌, ◌-◌, ◌*◌, ◌/◌, ◌%◌, ◌^◌, ◌<◌}
use native.Mathlib.Omega.{arith}
use lib.Bits.{bit_xor, xor_lt, xor_comm}
use lib.Dec.{lit<}
use Rattle.fcs.specs.Fcs.{preset, residue, feed, feed_all, check_sequence, check_octets}
use Rattle.fcs.specs.Words.{shift_bit, shift_bits, little_endian}
use Rattle.common.proofs.Xor.{xor_complement, xor_left}
use Rattle.fcs.proofs.Register.{Octets, shifts_injective, feed_shift, feed_lt, feeds_lt, feeds_word, feed-++}

-- ---- two octets after a register
residue_is : shift_bits 16 0xFFFF ≡ residue
unfolding shift_bits shift_bit
residue_is = cc

pair : (a b : ℕ) → a < 256 → b < 256 → Octets (a ∷ b ∷ [])
pair a b ha hb zero = ha
pair a b ha hb (suc zero) = hb
pair a b ha hb (suc (suc i)) = omega arith

pair_word : (a b : ℕ) → little_endian (a ∷ b ∷ []) ≡ a + b * 256
unfolding little_endian
pair_word a b = omega arith

module _ (r a b : ℕ) (hr : r < 2 ^ 16) (ha : a < 256) (hb : b < 256) where
  feed_pair : feed_all r (a ∷ b ∷ []) ≡ shift_bits 16 (bit_xor r (a + b * 256))
  feed_pair = feeds_word r (a ∷ b ∷ []) (pair a b ha hb) ∙ ap (λ (w : ℕ). shift_bits 16 (bit_xor r w)) (pair_word a b)

  -- the complement of the register, and nothing else, leads to the residue
  pub pair_residue : a + b * 256 ≡ 0xFFFF - r → feed_all r (a ∷ b ∷ []) ≡ residue
  pair_residue e = feed_pair ∙ ap (λ (w : ℕ). shift_bits 16 (bit_xor r w)) e ∙ ap (shift_bits 16) (xor_complement 16 r hr) ∙ residue_is

  pub pair_only : feed_all r (a ∷ b ∷ []) ≡ residue → a + b * 256 ≡ 0xFFFF - r
  pair_only e =
      let i : bit_xor r (a + b * 256) ≡ 0xFFFF =
      shifts_injective 16 (bit_xor r (a + b * 256)) 0xFFFF (xor_lt 16 r (a + b * 256) hr (omega arith)) (lit< tt) (sym feed_pair ∙ e ∙ sym residue_is) in
      xor_left r (a + b * 256) (0xFFFF - r) (i ∙ sym (xor_complement 16 r hr))

-- ---- the same of a list
module _ (xs : List ℕ) where
  register_lt : feed_all preset xs < 2 ^ 16
  register_lt = feeds_lt preset xs (lit< tt)

  pub check_residue : feed_all preset (xs ++ check_octets xs) ≡ residue
  unfolding check_sequence
  check_residue =
      let r = feed_all preset xs in
      let l = register_lt in
      feed-++ preset xs (check_octets xs)
      ∙ pair_residue r ((0xFFFF - r) % 256) ((0xFFFF - r) / 256) l (omega arith) (omega arith) (omega arith)

  pub check_only : (a b : ℕ) → a < 256 → b < 256 → feed_all preset (xs ++ a ∷ b ∷ []) ≡ residue → a ∷ b ∷ [] ≡ check_octets xs
  unfolding check_sequence
  check_only a b ha hb e =
      let r = feed_all preset xs in
      let i = pair_only r a b register_lt ha hb (sym (feed-++ preset xs (a ∷ b ∷ [])) ∙ e) in
      let l : a ≡ (0xFFFF - r) % 256 = omega arith in
      let h : b ≡ (0xFFFF - r) / 256 = omega arith in
      ap₂ (λ (x y : ℕ). x ∷ y ∷ []) l h

-- ---- nothing is lost
-- in an octet
pub feed_octet_injective : (c x y : ℕ) → c < 2 ^ 16 → x < 256 → y < 256 → feed c x ≡ feed c y → x ≡ y
feed_octet_injective c x y hc hx hy e =
    xor_left c x y
    (shifts_injective 8 (bit_xor c x) (bit_xor c y) (xor_lt 16 c x hc (omega arith)) (xor_lt 16 c y hc (omega arith))
    (sym (feed_shift c x hx) ∙ e ∙ feed_shift c y hy))

-- in the register
pub feed_register_injective : (c d x : ℕ) → c < 2 ^ 16 → d < 2 ^ 16 → x < 256 → feed c x ≡ feed d x → c ≡ d
feed_register_injective c d x hc hd hx e =
    xor_left x c d
    (xor_comm x c
    ∙ shifts_injective 8 (bit_xor c x) (bit_xor d x) (xor_lt 16 c x hc (omega arith)) (xor_lt 16 d x hd (omega arith))
    (sym (feed_shift c x hx) ∙ e ∙ feed_shift d x hx)
    ∙ xor_comm d x)

pub feeds_injective : (c d : ℕ) (xs : List ℕ) → c < 2 ^ 16 → d < 2 ^ 16 → Octets xs → feed_all c xs ≡ feed_all d xs → c ≡ d
unfolding feed_all
feeds_injective c d [] hc hd o e = e
feeds_injective c d (x ∷ xs) hc hd o e =
    feed_register_injective c d x hc hd (o 0)
    (feeds_injective (feed c x) (feed d x) xs (feed_lt c x hc) (feed_lt d x hd) (λ i. o (suc i)) e)

-- one octet changed anywhere changes the register at the end
module _ (c : ℕ) (xs ys : List ℕ) (x y : ℕ) (hc : c < 2 ^ 16) (oy : Octets ys) (hx : x < 256) (hy : y < 256) where
  pub changed_octet : feed_all c (xs ++ x ∷ ys) ≡ feed_all c (xs ++ y ∷ ys) → x ≡ y
  unfolding feed_all
  changed_octet e =
      let r = feed_all c xs in
      let l : feed_all c xs < 2 ^ 16 = feeds_lt c xs hc in
      feed_octet_injective r x y l hx hy
      (feeds_injective (feed r x) (feed r y) ys (feed_lt r x l) (feed_lt r y l) oy
      (sym (feed-++ c xs (x ∷ ys)) ∙ e ∙ feed-++ c xs (y ∷ ys)))
