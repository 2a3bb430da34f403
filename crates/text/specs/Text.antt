-- Texts, numbers and octets in ASCII. Cited by the functions that put them into a lent buffer, and by the lines of a listing. Assumes nothing.
--
--   ascii t     the octets of a text
--   decimal n   a number
--   hex xs      octets, two digits each
use Rattle.std.specs.Prelude.{ℕ, zero, suc, ◌+◌, ◌/◌, ◌%◌, cond, List, [], ◌∷◌, ltb, eqb}
use Prim.Native.Char.{code}
use Prim.Native.String.{String, [] as []ᵗ, ◌∷◌ as ◌∷ᵗ◌}

-- a text, which has characters below 128 alone
abbrev pub ascii : String → List ℕ
ascii []ᵗ = []
ascii (c ∷ᵗ s) = code c ∷ ascii s

-- the digit of a number below 10
abbrev pub digit : ℕ → ℕ
digit n = 48 + n

-- the k last decimal digits of n, without leading zeros, before the text t
unfoldable pub decimal_onto : (k n : ℕ) (t : List ℕ) → List ℕ
decimal_onto zero n t = t
decimal_onto (suc k) n t = let u = digit (n % 10) ∷ t in let more = decimal_onto k (n / 10) u in cond (eqb (n / 10) 0) u more

-- a number of at most 20 digits: every number below 2^64
abbrev pub max_digits : ℕ
max_digits = 20

unfoldable pub decimal : ℕ → List ℕ
decimal n = decimal_onto max_digits n []

-- "hex letters are capitals": the digit of a number below 16
abbrev pub hex_digit : ℕ → ℕ
hex_digit n = cond (ltb n 10) (48 + n) (55 + n)

-- two digits an octet
unfoldable pub hex : List ℕ → List ℕ
hex [] = []
hex (x ∷ xs) = hex_digit (x / 16) ∷ hex_digit (x % 16) ∷ hex xs
