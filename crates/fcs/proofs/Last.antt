-- The last few octets of a word, fed at once. Assumes nothing.
use Prim.Native.Nat.{ℕ, zero, suc, ◌+◌, ◌-◌, ◌*◌, ◌/◌, ◌%◌, ◌^◌, ◌≤◌, ◌<◌}
use mathlib.Core.List.{List, [], ◌∷◌}
use mathlib.Core.Path.{◌≡◌, sym, ap, ◌∙◌}
use native.Mathlib.Omega.{arith}
use native.Mathlib.Nat.{lt_of_lt_of_le}
use lib.Bits.{bit_xor, xor_lt, xor_comm}
use lib.ListN.{length, take, drop, take-append-drop, length-drop}
use lib.Seq.{drop-drop, take_all}
use lib.Pow.{pow_mono, pow-add, shr-shr, shr_le, shl_exact}
use Rattle.fcs.specs.Fcs.{feed_all}
use Rattle.fcs.specs.Words.{shift_bits, little_endian}
use Rattle.fcs.proofs.Register.{Octets, octets-drop, shifts_+, shifts_moved, feeds_word, feed-++}

-- octets as a number: those behind the first j are what is left when these are moved out
word_shr : (j : ℕ) (xs : List ℕ) → Octets xs → little_endian xs / 2 ^ (8 * j) ≡ little_endian (drop j xs)
unfolding little_endian
word_shr zero xs o = omega arith
word_shr (suc j) [] o = omega (arith, shr_le 0 (8 * suc j))
word_shr (suc j) (x ∷ xs) o =
    let n = x + little_endian xs * 256 in
    let m : 8 * suc j ≡ 8 + 8 * j = omega arith in
    let first : n / 2 ^ 8 ≡ little_endian xs = omega (arith, o 0) in
    ap (λ (e : ℕ). n / 2 ^ e) m ∙ sym (shr-shr n 8 (8 * j)) ∙ ap (λ (w : ℕ). w / 2 ^ (8 * j)) first ∙ word_shr j xs (λ i. o (suc i))

word_lt : (xs : List ℕ) → Octets xs → little_endian xs < 2 ^ (8 * length xs)
unfolding little_endian
word_lt [] o = omega arith
word_lt (x ∷ xs) o =
    let m : 8 * suc (length xs) ≡ 8 + 8 * length xs = omega arith in
    let p = ap (λ (e : ℕ). 2 ^ e) m ∙ pow-add 2 8 (8 * length xs) in
    omega (arith, p, o 0, word_lt xs (λ i. o (suc i)))

-- w: the word of eight octets, r: what the code makes of it
module _ (c w r k s : ℕ) (xs : List ℕ) (hc : c < 2 ^ 16) (o : Octets xs) (l : length xs ≡ 8) (least : 2 ≤ k) (most : k ≤ 8) (se : s ≡ 64 - 8 * k) (we : w ≡ little_endian xs) where
  abbrev ys : List ℕ
  ys = drop (8 - k) xs

  as_many : length ys ≡ k
  as_many = omega (arith, length-drop (8 - k) xs, l, most)

  moved_out : w / 2 ^ s ≡ little_endian ys
  moved_out =
      let e : s ≡ 8 * (8 - k) = omega (arith, se, most) in
      ap (λ (w : ℕ). w / 2 ^ s) we ∙ ap (λ (s : ℕ). little_endian xs / 2 ^ s) e ∙ word_shr (8 - k) xs o

  added_lt : bit_xor (little_endian ys) c < 2 ^ (8 * k)
  added_lt =
      let y = ap (λ (n : ℕ). 2 ^ (8 * n)) as_many in
      xor_lt (8 * k) (little_endian ys) c (omega (arith, word_lt ys (octets-drop (8 - k) xs o), y)) (lt_of_lt_of_le hc (pow_mono {i = 16} {j = 8 * k} (omega (arith, least))))

  pub last_fed : r ≡ shift_bits 64 (bit_xor (w / 2 ^ s) c * 2 ^ s % 2 ^ 64) → r ≡ feed_all c ys
  last_fed re =
      let x = bit_xor (little_endian ys) c in
      let whole : 8 * k + s ≤ 64 = omega (arith, se, most) in
      let both : 64 ≡ s + 8 * k = omega (arith, se, most) in
      re
      ∙ ap (λ (z : ℕ). shift_bits 64 (bit_xor z c * 2 ^ s % 2 ^ 64)) moved_out
      ∙ ap (shift_bits 64) (shl_exact (8 * k) s 64 added_lt whole)
      ∙ ap (λ (n : ℕ). shift_bits n (x * 2 ^ s)) both
      ∙ shifts_+ s (8 * k) (x * 2 ^ s)
      ∙ ap (shift_bits (8 * k)) (shifts_moved s x ∙ xor_comm (little_endian ys) c)
      ∙ sym (feeds_word c ys (octets-drop (8 - k) xs o) ∙ ap (λ (n : ℕ). shift_bits (8 * n) (bit_xor c (little_endian ys))) as_many)

-- a list of eight octets or more: whole eights, and then the last few as a part of the last eight
pub last_part : (d : ℕ) (xs : List ℕ) (c r : ℕ) → 8 ≤ length xs → c ≡ feed_all d (take (length xs - length xs % 8) xs)
    → r ≡ feed_all c (drop (8 - length xs % 8) (take (length xs - (length xs - 8)) (drop (length xs - 8) xs))) → r ≡ feed_all d xs
last_part d xs c r h ce re =
    let n = length xs in
    let k = length xs % 8 in
    let eight : length (drop (n - 8) xs) ≤ n - (n - 8) = omega (arith, length-drop (n - 8) xs) in
    let at : n - 8 + (8 - k) ≡ n - k = omega (arith, h) in
    re
    ∙ ap (λ (t : List ℕ). feed_all c (drop (8 - k) t)) (take_all (n - (n - 8)) (drop (n - 8) xs) eight)
    ∙ ap (feed_all c) (drop-drop (8 - k) (n - 8) xs ∙ ap (λ (i : ℕ). drop i xs) at)
    ∙ ap (λ (c : ℕ). feed_all c (drop (n - k) xs)) ce
    ∙ sym (feed-++ d (take (n - k) xs) (drop (n - k) xs))
    ∙ ap (feed_all d) (take-append-drop (n - k) xs)
