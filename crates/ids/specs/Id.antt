-- The rule of a station ID. Cited by ids' code and by the station fields. Assumes nothing.
--
--   valid_id xs   xs is "one or more of A-Z, 0-9, '/', then nothing, or '-' and one or more octets 21 to 7E"
use Rattle.std.specs.Prelude.{Bool, true, cond, ◌&&◌, ◌||◌, List, [], ◌∷◌, ℕ, ◌+◌, leb, ltb, eqb, length, drop}

abbrev pub between : ℕ → ℕ → ℕ → Bool
between lo hi x = leb lo x && leb x hi

-- an octet of a callsign: A to Z, or "/" and 0 to 9, which stand side by side
unfoldable pub is_callsign : ℕ → Bool
is_callsign x = between 0x41 0x5A x || between 0x2F 0x39 x

-- an octet of what the station appends to its callsign
unfoldable pub is_graphic : ℕ → Bool
is_graphic x = between 0x21 0x7E x

-- how many octets of a callsign stand at the front
unfoldable pub callsign_length : List ℕ → ℕ
callsign_length [] = 0
callsign_length (x ∷ xs) = cond (is_callsign x) (callsign_length xs + 1) 0

unfoldable pub all_graphic : List ℕ → Bool
all_graphic [] = true
all_graphic (x ∷ xs) = is_graphic x && all_graphic xs

-- nothing, or "-" and one or more graphic octets
unfoldable pub valid_suffix : List ℕ → Bool
valid_suffix [] = true
valid_suffix (x ∷ xs) = eqb x 0x2D && (ltb 0 (length xs) && all_graphic xs)

-- a callsign and what is appended to it; "-" is no octet of a callsign, so there is one way to part them
unfoldable pub valid_id : List ℕ → Bool
valid_id xs = ltb 0 (callsign_length xs) && valid_suffix (drop (callsign_length xs) xs)
