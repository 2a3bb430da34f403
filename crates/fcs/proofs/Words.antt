-- The code's way to divide by the generator, several bits at once, is the register's, bit by bit. Assumes nothing.
use mathlib.Core.Path.{◌≡◌, refl, sym, ap, ◌∙◌}
use mathlib.Core.List.{List, [], ◌∷◌}
use Prim.Native.Nat.{ℕ, ◌+◌, ◌*◌, ◌/◌, ◌%◌, ◌^◌, ◌<◌}
use native.Mathlib.Nat.{mod-lt}
use native.Mathlib.Omega.{arith}
use lib.Bits.{bit_xor, xor_lt, xor_comm}
use lib.Dec.{T, eqb, lit<}
use lib.ListN.{length, get_or}
use Rattle.std.specs.Int.{w64, from_le_bytes}
use Rattle.fcs.specs.Fcs.{feed, feed_all}
use Rattle.fcs.specs.Words.{shift_bit, shift_bits, little_endian}
use Rattle.fcs.proofs.Linear.{Linear, linear_id, linear_xor, linear_∘, linear_shl, linear_shr, below, linear_equal}
use Rattle.fcs.proofs.Register.{Octets, shifts_linear, feed_shift, feeds_word}

-- a shift up in a word of n bits
abbrev up : ℕ → ℕ → ℕ → ℕ
up n k x = x * 2 ^ k % 2 ^ n

up_lt : (k x : ℕ) → up 64 k x < 2 ^ 64
up_lt k x = mod-lt (x * 2 ^ k) (lit< tt)

-- what a word leaves in the register has 16 bits
small : (q : ℕ) → q < 2 ^ 64 → bit_xor (bit_xor (q / 2 ^ 48) (q / 2 ^ 53)) (q / 2 ^ 60) < 2 ^ 16
small q h =
    xor_lt 16 (bit_xor (q / 2 ^ 48) (q / 2 ^ 53)) (q / 2 ^ 60)
    (xor_lt 16 (q / 2 ^ 48) (q / 2 ^ 53) (omega arith) (omega arith)) (omega arith)

-- ---- an octet of the register
abbrev octet_quotient : ℕ → ℕ
octet_quotient d = bit_xor (up 16 8 d) (up 16 4 (up 16 8 d))

unfoldable pub octet_shift : ℕ → ℕ
octet_shift d = bit_xor (bit_xor (bit_xor (d / 2 ^ 8) (octet_quotient d)) (octet_quotient d / 2 ^ 5)) (octet_quotient d / 2 ^ 12)

octet_quotient_linear : Linear octet_quotient
octet_quotient_linear =
    linear_xor (up 16 8) (λ x. up 16 4 (up 16 8 x)) (linear_shl 16 8) (linear_∘ (up 16 4) (up 16 8) (linear_shl 16 4) (linear_shl 16 8))

octet_linear : Linear octet_shift
unfolding octet_shift
octet_linear =
    linear_xor (λ x. bit_xor (bit_xor (x / 2 ^ 8) (octet_quotient x)) (octet_quotient x / 2 ^ 5)) (λ x. octet_quotient x / 2 ^ 12)
    (linear_xor (λ x. bit_xor (x / 2 ^ 8) (octet_quotient x)) (λ x. octet_quotient x / 2 ^ 5)
    (linear_xor (λ x. x / 2 ^ 8) octet_quotient (linear_shr 8) octet_quotient_linear)
    (linear_∘ (λ x. x / 2 ^ 5) octet_quotient (linear_shr 5) octet_quotient_linear))
    (linear_∘ (λ x. x / 2 ^ 12) octet_quotient (linear_shr 12) octet_quotient_linear)

octet_tested : T (below 16 (λ i. eqb (octet_shift (2 ^ i)) (shift_bits 8 (2 ^ i))))
unfolding below octet_shift shift_bits shift_bit
octet_tested = tt

octet_is : (d : ℕ) → d < 2 ^ 16 → octet_shift d ≡ shift_bits 8 d
octet_is = linear_equal octet_shift (shift_bits 8) octet_linear (shifts_linear 8) 16 octet_tested

pub octet_fed : (c x : ℕ) → c < 2 ^ 16 → x < 256 → octet_shift (bit_xor c x) ≡ feed c x
octet_fed c x hc hx = octet_is (bit_xor c x) (xor_lt 16 c x hc (omega arith)) ∙ sym (feed_shift c x hx)

-- ---- two octets, which fill the register
abbrev pair_first : ℕ → ℕ
pair_first d = bit_xor (bit_xor d (up 16 4 d)) (up 16 11 d)

abbrev pair_quotient : ℕ → ℕ
pair_quotient d = bit_xor (pair_first d) (up 16 8 (pair_first d))

unfoldable pub pair_shift : ℕ → ℕ
pair_shift d = bit_xor (bit_xor (pair_quotient d) (pair_quotient d / 2 ^ 5)) (pair_quotient d / 2 ^ 12)

pair_first_linear : Linear pair_first
pair_first_linear =
    linear_xor (λ x. bit_xor x (up 16 4 x)) (up 16 11) (linear_xor (λ x. x) (up 16 4) linear_id (linear_shl 16 4)) (linear_shl 16 11)

pair_quotient_linear : Linear pair_quotient
pair_quotient_linear = linear_xor pair_first (λ x. up 16 8 (pair_first x)) pair_first_linear (linear_∘ (up 16 8) pair_first (linear_shl 16 8) pair_first_linear)

pair_linear : Linear pair_shift
unfolding pair_shift
pair_linear =
    linear_xor (λ x. bit_xor (pair_quotient x) (pair_quotient x / 2 ^ 5)) (λ x. pair_quotient x / 2 ^ 12)
    (linear_xor pair_quotient (λ x. pair_quotient x / 2 ^ 5) pair_quotient_linear (linear_∘ (λ x. x / 2 ^ 5) pair_quotient (linear_shr 5) pair_quotient_linear))
    (linear_∘ (λ x. x / 2 ^ 12) pair_quotient (linear_shr 12) pair_quotient_linear)

pair_tested : T (below 16 (λ i. eqb (pair_shift (2 ^ i)) (shift_bits 16 (2 ^ i))))
unfolding below pair_shift shift_bits shift_bit
pair_tested = tt

pair_is : (d : ℕ) → d < 2 ^ 16 → pair_shift d ≡ shift_bits 16 d
pair_is = linear_equal pair_shift (shift_bits 16) pair_linear (shifts_linear 16) 16 pair_tested

two_word : (xs : List ℕ) → length xs ≡ 2 → get_or xs 0 0 + get_or xs 1 0 * 256 ≡ little_endian xs
unfolding little_endian
two_word (x ∷ y ∷ []) l = omega arith
two_word [] l = absurd (omega arith)
two_word (x ∷ []) l = absurd (omega arith)
two_word (x ∷ y ∷ z ∷ xs) l = absurd (omega arith)

-- the register after two octets, by their number w
pub pair_fed : (c w : ℕ) (xs : List ℕ) → c < 2 ^ 16 → Octets xs → length xs ≡ 2 → w ≡ get_or xs 0 0 + get_or xs 1 0 * 256 → pair_shift (bit_xor c w) ≡ feed_all c xs
pair_fed c w xs hc o l we =
    let n : 8 * length xs ≡ 16 = omega arith in
    pair_is (bit_xor c w) (xor_lt 16 c w hc (omega (arith, o 0, o 1)))
    ∙ ap (λ (w : ℕ). shift_bits 16 (bit_xor c w)) (we ∙ two_word xs l)
    ∙ sym (feeds_word c xs o ∙ ap (λ (k : ℕ). shift_bits k (bit_xor c (little_endian xs))) n)

-- ---- 64 bits of the register
-- f, and the word x moved up by each of the ks, added
abbrev spread : (ℕ → ℕ) → List ℕ → ℕ → ℕ
spread f [] = f
spread f (k ∷ ks) = spread (λ x. bit_xor (f x) (up 64 k x)) ks

spread_linear : (f : ℕ → ℕ) (ks : List ℕ) → Linear f → Linear (spread f ks)
spread_linear f [] h = h
spread_linear f (k ∷ ks) h = spread_linear (λ x. bit_xor (f x) (up 64 k x)) ks (linear_xor f (up 64 k) h (linear_shl 64 k))

spread_lt : (f : ℕ → ℕ) (ks : List ℕ) (x : ℕ) → f x < 2 ^ 64 → spread f ks x < 2 ^ 64
spread_lt f [] x h = h
spread_lt f (k ∷ ks) x h = spread_lt (λ x. bit_xor (f x) (up 64 k x)) ks x (xor_lt 64 (f x) (up 64 k x) h (up_lt k x))

-- a word times 1 and the powers ks of x
abbrev times : List ℕ → ℕ → ℕ
times ks = spread (λ x. x) ks

times_linear : (ks : List ℕ) → Linear (times ks)
times_linear ks = spread_linear (λ x. x) ks linear_id

times_lt : (ks : List ℕ) (x : ℕ) → x < 2 ^ 64 → times ks x < 2 ^ 64
times_lt ks x h = spread_lt (λ x. x) ks x h

-- the powers of x in z, z^2, z^4 and z^8 that a word of 64 bits has room for
abbrev z₁ : List ℕ
z₁ = 4 ∷ 11 ∷ 16 ∷ []

abbrev z₂ : List ℕ
z₂ = 8 ∷ 22 ∷ 32 ∷ []

abbrev z₄ : List ℕ
z₄ = 16 ∷ 44 ∷ []

abbrev z₈ : List ℕ
z₈ = 32 ∷ []

-- the quotient, and what the division leaves
unfoldable pub quotient : ℕ → ℕ
quotient x = times z₈ (times z₄ (times z₂ (times z₁ x)))

unfoldable pub remainder : ℕ → ℕ
remainder q = bit_xor (bit_xor (q / 2 ^ 48) (q / 2 ^ 53)) (q / 2 ^ 60)

quotient_linear : Linear quotient
unfolding quotient
quotient_linear =
    linear_∘ (times z₈) (λ x. times z₄ (times z₂ (times z₁ x))) (times_linear z₈)
    (linear_∘ (times z₄) (λ x. times z₂ (times z₁ x)) (times_linear z₄)
    (linear_∘ (times z₂) (times z₁) (times_linear z₂) (times_linear z₁)))

remainder_linear : Linear remainder
unfolding remainder
remainder_linear =
    linear_xor (λ x. bit_xor (x / 2 ^ 48) (x / 2 ^ 53)) (λ x. x / 2 ^ 60)
    (linear_xor (λ x. x / 2 ^ 48) (λ x. x / 2 ^ 53) (linear_shr 48) (linear_shr 53)) (linear_shr 60)

pub word_lt : (d : ℕ) → d < 2 ^ 64 → remainder (quotient d) < 2 ^ 16
unfolding quotient remainder
word_lt d h =
    let q = times z₈ (times z₄ (times z₂ (times z₁ d))) in
    let l : times z₈ (times z₄ (times z₂ (times z₁ d))) < 2 ^ 64 = times_lt z₈ (times z₄ (times z₂ (times z₁ d))) (times_lt z₄ (times z₂ (times z₁ d)) (times_lt z₂ (times z₁ d) (times_lt z₁ d h))) in
    small q l

word_tested : T (below 64 (λ i. eqb (remainder (quotient (2 ^ i))) (shift_bits 64 (2 ^ i))))
unfolding below quotient remainder shift_bits shift_bit
word_tested = tt

pub word_shifted : (d : ℕ) → d < 2 ^ 64 → remainder (quotient d) ≡ shift_bits 64 d
word_shifted =
    linear_equal (λ x. remainder (quotient x)) (shift_bits 64) (linear_∘ remainder quotient remainder_linear quotient_linear) (shifts_linear 64) 64 word_tested

-- ---- eight octets
eight : (xs : List ℕ) → length xs ≡ 8 → xs ≡ get_or xs 0 0 ∷ get_or xs 1 0 ∷ get_or xs 2 0 ∷ get_or xs 3 0 ∷ get_or xs 4 0 ∷ get_or xs 5 0 ∷ get_or xs 6 0 ∷ get_or xs 7 0 ∷ []
eight (a ∷ b ∷ c ∷ d ∷ e ∷ f ∷ g ∷ h ∷ []) l = refl
eight [] l = absurd (omega arith)
eight (a ∷ []) l = absurd (omega arith)
eight (a ∷ b ∷ []) l = absurd (omega arith)
eight (a ∷ b ∷ c ∷ []) l = absurd (omega arith)
eight (a ∷ b ∷ c ∷ d ∷ []) l = absurd (omega arith)
eight (a ∷ b ∷ c ∷ d ∷ e ∷ []) l = absurd (omega arith)
eight (a ∷ b ∷ c ∷ d ∷ e ∷ f ∷ []) l = absurd (omega arith)
eight (a ∷ b ∷ c ∷ d ∷ e ∷ f ∷ g ∷ []) l = absurd (omega arith)
eight (a ∷ b ∷ c ∷ d ∷ e ∷ f ∷ g ∷ h ∷ i ∷ xs) l = absurd (omega arith)

pub eight_word : (xs : List ℕ) → length xs ≡ 8
    → from_le_bytes w64 (get_or xs 0 0 ∷ get_or xs 1 0 ∷ get_or xs 2 0 ∷ get_or xs 3 0 ∷ get_or xs 4 0 ∷ get_or xs 5 0 ∷ get_or xs 6 0 ∷ get_or xs 7 0 ∷ []) ≡ little_endian xs
unfolding little_endian
eight_word xs l = sym (ap little_endian (eight xs l) ∙ omega arith)

-- the register after eight octets, by their number w
pub eight_fed : (c w r : ℕ) (xs : List ℕ) → Octets xs → length xs ≡ 8 → w ≡ little_endian xs → r ≡ shift_bits 64 (bit_xor w c) → r ≡ feed_all c xs
eight_fed c w r xs o l we re =
    let n : 8 * length xs ≡ 64 = omega arith in
    re ∙ ap (shift_bits 64) (xor_comm w c ∙ ap (bit_xor c) we)
    ∙ sym (feeds_word c xs o ∙ ap (λ (k : ℕ). shift_bits k (bit_xor c (little_endian xs))) n)
