-- What stands at an index p of the station fields s: "each a length and its octets, closed by 0". Cited by `field_at` and its laws. Assumes nothing.
use Rattle.std.specs.Prelude.{Bool, cond, ◌&&◌, List, ℕ, ◌+◌, leb, ltb, eqb, length, get_or, take, drop}
use Rattle.ids.specs.Id.{valid_id}
use Rattle.stations.specs.declared.Field.{Field}
use Rattle.stations.specs.declared.Field.TheVariants.{Closing, Id, Malformed}

-- the length octet there, and the index behind the ID that it announces
abbrev pub length_at : List ℕ → ℕ → ℕ
length_at s p = get_or s p 0

abbrev pub behind_at : List ℕ → ℕ → ℕ
behind_at s p = p + 1 + length_at s p

-- "closed by 0"
unfoldable pub is_closing : List ℕ → ℕ → Bool
is_closing s p = ltb p (length s) && eqb (length_at s p) 0

-- an ID that keeps the rule, and lies wholly within the fields
unfoldable pub is_id_at : List ℕ → ℕ → Bool
is_id_at s p = leb (behind_at s p) (length s) && valid_id (take (length_at s p) (drop (p + 1) s))

-- the closing 0, an ID with the index behind it, or neither
unfoldable pub field_at : List ℕ → ℕ → Field
field_at s p = cond (is_closing s p) Closing (cond (is_id_at s p) (Id (behind_at s p)) Malformed)
