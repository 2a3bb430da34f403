-- Laws of `bit_xor` that lib.Bits lacks. Assumes nothing.
use mathlib.Core.Path.{◌≡◌, refl, sym, ap, ap₂, ◌∙◌}
use Prim.Native.Nat.{ℕ, zero, suc, ◌+◌, ◌-◌, ◌*◌, ◌/◌, ◌%◌, ◌^◌, ◌<◌}
use native.Mathlib.Nat.{mod-lt, zero-lt-suc, add-zero, pow-suc}
use native.Mathlib.Omega.{arith}
use lib.Arith.{bin_ind, lt-one}
use lib.Bits.{bit_xor, differ, xor_step, xor_shr, xor_mod, xor_block, xor_zero_l, xor_zero_r, xor_self, xor_comm}

-- ---- binary digits
differ_assoc : (x y z : ℕ) → x < 2 → y < 2 → z < 2 → differ (differ x y) z ≡ differ x (differ y z)
differ_assoc zero y z hx hy hz = refl
differ_assoc (suc zero) zero z hx hy hz = refl
differ_assoc (suc zero) (suc zero) zero hx hy hz = refl
differ_assoc (suc zero) (suc zero) (suc zero) hx hy hz = refl
differ_assoc (suc zero) (suc zero) (suc (suc z)) hx hy hz = absurd (omega arith)
differ_assoc (suc zero) (suc (suc y)) z hx hy hz = absurd (omega arith)
differ_assoc (suc (suc x)) y z hx hy hz = absurd (omega arith)

xor_digit : (x y : ℕ) → x < 2 → y < 2 → bit_xor x y ≡ differ x y
xor_digit zero y hx hy = xor_zero_l y
xor_digit (suc zero) zero hx hy = refl
xor_digit (suc zero) (suc zero) hx hy = refl
xor_digit (suc zero) (suc (suc y)) hx hy = absurd (omega arith)
xor_digit (suc (suc x)) y hx hy = absurd (omega arith)

differ_sum : (x y : ℕ) → x < 2 → y < 2 → differ x y ≡ (x + y) % 2
differ_sum zero zero hx hy = refl
differ_sum zero (suc zero) hx hy = refl
differ_sum (suc zero) zero hx hy = refl
differ_sum (suc zero) (suc zero) hx hy = refl
differ_sum zero (suc (suc y)) hx hy = absurd (omega arith)
differ_sum (suc zero) (suc (suc y)) hx hy = absurd (omega arith)
differ_sum (suc (suc x)) y hx hy = absurd (omega arith)

two : zero < 2
two = zero-lt-suc 1

pub xor_half : (a b : ℕ) → bit_xor a b / 2 ≡ bit_xor (a / 2) (b / 2)
xor_half a b = xor_shr a b 1

pub xor_low : (a b : ℕ) → bit_xor a b % 2 ≡ differ (a % 2) (b % 2)
xor_low a b = xor_mod a b 1 ∙ xor_digit (a % 2) (b % 2) (mod-lt a two) (mod-lt b two)

-- the lowest digit is the sum's
pub xor_parity : (a b : ℕ) → bit_xor a b % 2 ≡ (a + b) % 2
xor_parity a b = let z : (a % 2 + b % 2) % 2 ≡ (a + b) % 2 = omega arith in xor_low a b ∙ differ_sum (a % 2) (b % 2) (mod-lt a two) (mod-lt b two) ∙ z

-- ---- a group in which each number is its own inverse
pub xor_assoc : (a b c : ℕ) → bit_xor (bit_xor a b) c ≡ bit_xor a (bit_xor b c)
xor_assoc a =
    bin_ind (λ (n : ℕ). (b c : ℕ) → bit_xor (bit_xor n b) c ≡ bit_xor n (bit_xor b c))
    (λ b c. ap (λ (x : ℕ). bit_xor x c) (xor_zero_l b) ∙ sym (xor_zero_l (bit_xor b c)))
    (λ n ih b c.
    xor_step (bit_xor n b) c
    ∙ ap₂ (λ (x y : ℕ). x * 2 + y)
    (ap (λ (x : ℕ). bit_xor x (c / 2)) (xor_half n b) ∙ ih (b / 2) (c / 2) ∙ ap (λ (x : ℕ). bit_xor (n / 2) x) (sym (xor_half b c)))
    (ap (λ (x : ℕ). differ x (c % 2)) (xor_low n b)
    ∙ differ_assoc (n % 2) (b % 2) (c % 2) (mod-lt n two) (mod-lt b two) (mod-lt c two)
    ∙ ap (λ (x : ℕ). differ (n % 2) x) (sym (xor_low b c)))
    ∙ sym (xor_step n (bit_xor b c)))
    a

-- the same number twice goes out
pub xor_cancel : (a b : ℕ) → bit_xor (bit_xor a b) b ≡ a
xor_cancel a b = xor_assoc a b b ∙ ap (λ (x : ℕ). bit_xor a x) (xor_self b) ∙ xor_zero_r a

-- equal results with one number on the left have equal rights
pub xor_left : (a b c : ℕ) → bit_xor a b ≡ bit_xor a c → b ≡ c
xor_left a b c e = sym (xor_cancel b a) ∙ ap (λ (x : ℕ). bit_xor x a) (xor_comm b a ∙ e ∙ xor_comm a c) ∙ xor_cancel c a

-- the inner two of four change places
pub xor_exchange : (a b c d : ℕ) → bit_xor (bit_xor a b) (bit_xor c d) ≡ bit_xor (bit_xor a c) (bit_xor b d)
xor_exchange a b c d =
    xor_assoc a b (bit_xor c d)
    ∙ ap (bit_xor a) (sym (xor_assoc b c d) ∙ ap (λ (x : ℕ). bit_xor x d) (xor_comm b c) ∙ xor_assoc c b d)
    ∙ sym (xor_assoc a c (bit_xor b d))

-- two numbers moved up together
pub xor_shl : (k a b : ℕ) → bit_xor (a * 2 ^ k) (b * 2 ^ k) ≡ bit_xor a b * 2 ^ k
xor_shl k a b =
    ap₂ bit_xor (sym (add-zero (a * 2 ^ k))) (sym (add-zero (b * 2 ^ k)))
    ∙ xor_block k a b 0 0 (pos k) (pos k)
    ∙ add-zero (bit_xor a b * 2 ^ k)
  where
    pos : (k : ℕ) → 0 < 2 ^ k
    pos zero = omega arith
    pos (suc k) = rw (pow-suc 2 k) (omega (arith, pos k))

-- a number and its complement have every digit 1
pub xor_complement : (k a : ℕ) → a < 2 ^ k → bit_xor a (2 ^ k - 1 - a) ≡ 2 ^ k - 1
xor_complement zero a h = ap (λ (a : ℕ). bit_xor a (0 - a)) (lt-one h)
xor_complement (suc k) a h =
    let p : 2 ^ suc k ≡ 2 ^ k * 2 = pow-suc 2 k in
    let b : (2 ^ suc k - 1 - a) / 2 ≡ 2 ^ k - 1 - a / 2 = omega arith in
    let d : (2 ^ suc k - 1 - a) % 2 ≡ 1 - a % 2 = omega arith in
    xor_step a (2 ^ suc k - 1 - a)
    ∙ ap₂ (λ (x y : ℕ). x * 2 + y)
    (ap (bit_xor (a / 2)) b ∙ xor_complement k (a / 2) (omega arith))
    (ap (differ (a % 2)) d ∙ one (a % 2) (mod-lt a two))
    ∙ omega arith
  where
    one : (x : ℕ) → x < 2 → differ x (1 - x) ≡ 1
    one zero h = refl
    one (suc zero) h = refl
    one (suc (suc x)) h = absurd (omega arith)
