-- Numbers as they are typed among a program's arguments. Cited by `parse`. Assumes nothing.
--
--   value_from n xs   the number n with the digits xs behind it
--   typed_of xs       the number that the octets xs are, or none
use Rattle.std.specs.Prelude.{Option, Some, None, ℕ, ◌+◌, ◌*◌, ◌-◌, ◌^◌, Bool, true, ◌&&◌, cond, List, [], ◌∷◌, leb, ltb}

abbrev pub is_digit : ℕ → Bool
is_digit x = leb 48 x && leb x 57

unfoldable pub all_digits : List ℕ → Bool
all_digits [] = true
all_digits (x ∷ xs) = is_digit x && all_digits xs

unfoldable pub value_from : (n : ℕ) → List ℕ → ℕ
value_from n [] = n
value_from n (x ∷ xs) = value_from (n * 10 + (x - 48)) xs

-- where it is of digits alone, and of 64 bits
unfoldable pub typed_from : (n : ℕ) → List ℕ → Option ℕ
typed_from n xs = cond (all_digits xs && ltb (value_from n xs) (2 ^ 64)) (Some (value_from n xs)) None

-- no octets are no number
unfoldable pub typed_of : List ℕ → Option ℕ
typed_of [] = None
typed_of (x ∷ xs) = typed_from 0 (x ∷ xs)
