-- Laws of the register: it is linear, nothing is lost in it, and octets fed one by one are a number fed at once. Assumes nothing.
use mathlib.Core.Path.{◌≡◌, refl, sym, ap, ap₂, ◌∙◌}
use mathlib.Core.List.{List, [], ◌∷◌, ◌++◌}
use Prim.Native.Nat.{ℕ, zero, suc, ◌+◌, ◌-◌, ◌*◌, ◌/◌, ◌%◌, ◌^◌, ◌≤◌, ◌<◌}
use native.Mathlib.Nat.{mod-lt, mul-one, mul_assoc, pow-suc, mul-div_cancel, mul-mod_left, zero-lt-suc, add_comm}
use native.Mathlib.Numerals.{add-one}
use native.Mathlib.Omega.{arith}
use lib.Bits.{bit_xor, differ, xor_lt, xor_zero_l, xor_zero_r, xor_self, xor_comm, xor_shifted}
use lib.Dec.{lit<}
use lib.ListN.{length, get_or, take, drop, take-append-drop, drop_of_length-le}
use lib.Seq.{get_or-drop, drop-cons, length-take-le}
use Rattle.fcs.specs.Fcs.{generator, preset, reduce_if, feed_bit, feed_bits, feed, feed_all, check_sequence}
use Rattle.fcs.specs.Words.{shift_bit, shift_bits, little_endian}
use Rattle.common.proofs.Xor.{xor_half, xor_low, xor_parity, xor_assoc, xor_cancel, xor_exchange}
use Rattle.fcs.proofs.Linear.{Linear, linear_id, linear_∘}

-- each octet of a list is one
abbrev pub Octets : List ℕ → Type 0
Octets xs = (i : ℕ) → get_or xs i 0 < 256

pub octets-drop : (n : ℕ) (xs : List ℕ) → Octets xs → Octets (drop n xs)
octets-drop n xs o i = rw (get_or-drop n xs i 0) (o (n + i))

-- ---- the register is linear
reduce_xor : (d e g h : ℕ) → d < 2 → e < 2 → reduce_if (differ d e) (bit_xor g h) ≡ bit_xor (reduce_if d g) (reduce_if e h)
reduce_xor zero zero g h hd he = refl
reduce_xor zero (suc zero) g h hd he = xor_assoc g h generator
reduce_xor (suc zero) zero g h hd he =
    xor_assoc g h generator ∙ ap (bit_xor g) (xor_comm h generator) ∙ sym (xor_assoc g generator h)
reduce_xor (suc zero) (suc zero) g h hd he =
    sym (xor_exchange g generator h generator ∙ ap (bit_xor (bit_xor g h)) (xor_self generator) ∙ xor_zero_r (bit_xor g h))
reduce_xor zero (suc (suc e)) g h hd he = absurd (omega arith)
reduce_xor (suc zero) (suc (suc e)) g h hd he = absurd (omega arith)
reduce_xor (suc (suc d)) e g h hd he = absurd (omega arith)

shift_linear : Linear shift_bit
unfolding shift_bit
shift_linear a b =
    ap₂ reduce_if (xor_low a b) (xor_half a b)
    ∙ reduce_xor (a % 2) (b % 2) (a / 2) (b / 2) (mod-lt a (zero-lt-suc 1)) (mod-lt b (zero-lt-suc 1))

pub shifts_linear : (k : ℕ) → Linear (shift_bits k)
unfolding shift_bits
shifts_linear zero = linear_id
shifts_linear (suc k) = linear_∘ (shift_bits k) shift_bit (shifts_linear k) shift_linear

-- ---- it stays within 16 bits, and two registers stay different
reduce_lt : (d x : ℕ) → x < 2 ^ 16 → reduce_if d x < 2 ^ 16
reduce_lt zero x h = h
reduce_lt (suc d) x h = xor_lt 16 x generator h (lit< tt)

shift_lt : (c : ℕ) → c < 2 ^ 16 → shift_bit c < 2 ^ 16
unfolding shift_bit
shift_lt c h = reduce_lt (c % 2) (c / 2) (omega arith)

pub shifts_lt : (k c : ℕ) → c < 2 ^ 16 → shift_bits k c < 2 ^ 16
unfolding shift_bits
shifts_lt zero c h = h
shifts_lt (suc k) c h = shifts_lt k (shift_bit c) (shift_lt c h)

-- the generator's highest bit tells whether it was taken off
shift_zero : (c : ℕ) → c < 2 ^ 16 → shift_bit c ≡ 0 → c ≡ 0
unfolding shift_bit
shift_zero c h = by (c % 2) (c / 2) (omega arith) (omega arith) (omega arith)
  where
    by : (d x : ℕ) → c ≡ x * 2 + d → d < 2 → x < 2 ^ 15 → reduce_if d x ≡ 0 → c ≡ 0
    by zero x i l b e = omega arith
    by (suc zero) x i l b e =
        let g : x ≡ generator = sym (xor_cancel x generator) ∙ ap (λ (y : ℕ). bit_xor y generator) e ∙ xor_zero_l generator in
        absurd (omega arith)
    by (suc (suc d)) x i l b e = absurd (omega arith)

shift_injective : (a b : ℕ) → a < 2 ^ 16 → b < 2 ^ 16 → shift_bit a ≡ shift_bit b → a ≡ b
shift_injective a b ha hb e =
    let z : shift_bit (bit_xor a b) ≡ 0 = shift_linear a b ∙ ap (λ (x : ℕ). bit_xor x (shift_bit b)) e ∙ xor_self (shift_bit b) in
    let y : bit_xor a b ≡ 0 = shift_zero (bit_xor a b) (xor_lt 16 a b ha hb) z in
    sym (xor_cancel a b) ∙ ap (λ (x : ℕ). bit_xor x b) y ∙ xor_zero_l b

pub shifts_injective : (k a b : ℕ) → a < 2 ^ 16 → b < 2 ^ 16 → shift_bits k a ≡ shift_bits k b → a ≡ b
unfolding shift_bits
shifts_injective zero a b ha hb e = e
shifts_injective (suc k) a b ha hb e =
    shift_injective a b ha hb (shifts_injective k (shift_bit a) (shift_bit b) (shift_lt a ha) (shift_lt b hb) e)

-- ---- bits fed one by one are bits added at once
reduce_in : (d y h : ℕ) → reduce_if d (bit_xor y h) ≡ bit_xor (reduce_if d y) h
reduce_in zero y h = refl
reduce_in (suc d) y h = xor_assoc y h generator ∙ ap (bit_xor y) (xor_comm h generator) ∙ sym (xor_assoc y generator h)

feed_bit_lem : (c x : ℕ) → bit_xor (feed_bit c x) (x / 2) ≡ shift_bit (bit_xor c x)
unfolding feed_bit shift_bit
feed_bit_lem c x = sym (ap₂ reduce_if (xor_parity c x) (xor_half c x) ∙ reduce_in ((c + x) % 2) (c / 2) (x / 2))

feed_bits_lem : (k c x : ℕ) → x < 2 ^ k → feed_bits k c x ≡ shift_bits k (bit_xor c x)
unfolding feed_bits shift_bits
feed_bits_lem zero c x h = let z : x ≡ 0 = omega arith in sym (ap (bit_xor c) z ∙ xor_zero_r c)
feed_bits_lem (suc k) c x h =
    let p : 2 ^ suc k ≡ 2 ^ k * 2 = pow-suc 2 k in
    feed_bits_lem k (feed_bit c x) (x / 2) (omega arith) ∙ ap (shift_bits k) (feed_bit_lem c x)

pub feed_shift : (c x : ℕ) → x < 256 → feed c x ≡ shift_bits 8 (bit_xor c x)
unfolding feed
feed_shift c x h = feed_bits_lem 8 c x h

-- it stays within 16 bits, whatever is fed
feed_bits_lt : (k c x : ℕ) → c < 2 ^ 16 → feed_bits k c x < 2 ^ 16
unfolding feed_bits feed_bit
feed_bits_lt zero c x h = h
feed_bits_lt (suc k) c x h = feed_bits_lt k (reduce_if ((c + x) % 2) (c / 2)) (x / 2) (reduce_lt ((c + x) % 2) (c / 2) (omega arith))

pub feed_lt : (c x : ℕ) → c < 2 ^ 16 → feed c x < 2 ^ 16
unfolding feed
feed_lt c x h = feed_bits_lt 8 c x h

-- ---- octets fed one by one are a number added at once
pub shifts_+ : (j k c : ℕ) → shift_bits (j + k) c ≡ shift_bits k (shift_bits j c)
unfolding shift_bits
shifts_+ zero k c = let z : 0 + k ≡ k = omega arith in rw z
shifts_+ (suc j) k c = let z : suc j + k ≡ suc (j + k) = omega arith in rw z (shifts_+ j k (shift_bit c))

-- what stands above the bits that leave the register is moved down
shift_double : (x : ℕ) → shift_bit (x * 2) ≡ x
unfolding shift_bit
shift_double x = ap₂ reduce_if (mul-mod_left x 2) (mul-div_cancel x (zero-lt-suc 1))

pub shifts_moved : (k y : ℕ) → shift_bits k (y * 2 ^ k) ≡ y
unfolding shift_bits
shifts_moved zero y = mul-one y
shifts_moved (suc k) y =
    let p : y * 2 ^ suc k ≡ y * 2 ^ k * 2 = ap (λ (q : ℕ). y * q) (pow-suc 2 k) ∙ sym (mul_assoc y (2 ^ k) 2) in
    ap (shift_bits k) (ap shift_bit p ∙ shift_double (y * 2 ^ k)) ∙ shifts_moved k y

-- one octet x and then the number w
feed_then : (c x w : ℕ) → x < 256 → bit_xor (feed c x) w ≡ shift_bits 8 (bit_xor c (x + w * 256))
feed_then c x w h =
    ap₂ bit_xor (feed_shift c x h) (sym (shifts_moved 8 w))
    ∙ sym (shifts_linear 8 (bit_xor c x) (w * 2 ^ 8))
    ∙ ap (shift_bits 8)
    (xor_assoc c x (w * 256) ∙ ap (bit_xor c) (xor_comm x (w * 256) ∙ xor_shifted w 8 x h ∙ add_comm (w * 256) x))

pub feeds_word : (c : ℕ) (xs : List ℕ) → Octets xs → feed_all c xs ≡ shift_bits (8 * length xs) (bit_xor c (little_endian xs))
unfolding feed_all little_endian shift_bits
feeds_word c [] o = sym (xor_zero_r c)
feeds_word c (x ∷ xs) o =
    let n : 8 + 8 * length xs ≡ 8 * suc (length xs) = omega arith in
    feeds_word (feed c x) xs (λ i. o (suc i))
    ∙ ap (shift_bits (8 * length xs)) (feed_then c x (little_endian xs) (o 0))
    ∙ sym (shifts_+ 8 (8 * length xs) (bit_xor c (x + little_endian xs * 256)))
    ∙ ap (λ (k : ℕ). shift_bits k (bit_xor c (x + little_endian xs * 256))) n

-- ---- lists of octets
-- feeding two parts one after the other is feeding the whole
pub feed-++ : (c : ℕ) (xs ys : List ℕ) → feed_all c (xs ++ ys) ≡ feed_all (feed_all c xs) ys
unfolding feed_all
feed-++ c [] ys = refl
feed-++ c (x ∷ xs) ys = feed-++ (feed c x) xs ys

pub feeds_lt : (c : ℕ) (xs : List ℕ) → c < 2 ^ 16 → feed_all c xs < 2 ^ 16
unfolding feed_all
feeds_lt c [] h = h
feeds_lt c (x ∷ xs) h = feeds_lt (feed c x) xs (feed_lt c x h)

-- at a place of a list, for the loops
pub feed_next : (c : ℕ) (xs : List ℕ) (i : ℕ) → i < length xs → feed_all c (drop i xs) ≡ feed_all (feed c (get_or xs i 0)) (drop (i + 1) xs)
unfolding feed_all
feed_next c xs i h = rw (add-one, drop-cons xs i 0)

pub feed_done : (c : ℕ) (xs : List ℕ) (i : ℕ) → length xs ≤ i → feed_all c (drop i xs) ≡ c
unfolding feed_all
feed_done c xs i h = rw (drop_of_length-le xs h)

pub feed_none : (c : ℕ) (xs : List ℕ) → length xs ≡ 0 → feed_all c xs ≡ c
unfolding feed_all
feed_none c [] l = refl
feed_none c (x ∷ xs) l = absurd (omega arith)

-- some octets more of those that are left
pub feed_more : (c d w : ℕ) (xs ys zs : List ℕ) → xs ≡ ys ++ zs → d ≡ feed_all c ys → feed_all c xs ≡ w → feed_all d zs ≡ w
feed_more c d w xs ys zs x e h = ap (λ (d : ℕ). feed_all d zs) e ∙ sym (ap (feed_all c) x ∙ feed-++ c ys zs) ∙ h

-- the first k octets of a list and then those that are left
pub feed_split : (d k c r : ℕ) (xs ys zs : List ℕ) → ys ≡ take k xs → zs ≡ drop k xs → c ≡ feed_all d ys → r ≡ feed_all c zs → r ≡ feed_all d xs
feed_split d k c r xs ys zs y z ce re =
    re ∙ ap₂ feed_all (ce ∙ ap (feed_all d) y) z ∙ sym (feed-++ d (take k xs) (drop k xs)) ∙ ap (feed_all d) (take-append-drop k xs)

-- the register after a list from the preset on, complemented
pub feed_complement : (xs : List ℕ) (r : ℕ) → r ≡ feed_all preset xs → 0xFFFF - r ≡ check_sequence xs
unfolding check_sequence
feed_complement xs r e = ap (λ (r : ℕ). 0xFFFF - r) e

pub whole_twos : (xs : List ℕ) → length (take (length xs - length xs % 2) xs) % 2 ≡ 0
whole_twos xs = let n = length-take-le (length xs - length xs % 2) xs (omega arith) in omega arith

pub whole_eights : (xs : List ℕ) → length (take (length xs - length xs % 8) xs) % 8 ≡ 0
whole_eights xs = let n = length-take-le (length xs - length xs % 8) xs (omega arith) in omega arith
