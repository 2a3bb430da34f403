-- Station fields as a list of IDs, the source first. Cited by the meaning of a frame. Assumes nothing.
--
--   fields_of is   the fields of the IDs is
--   ids_of s       the IDs of the fields s
--   index_of n is  where the field of the ID number n begins
use Rattle.std.specs.Prelude.{Bool, true, cond, ◌&&◌, List, [], ◌∷◌, ◌++◌, ℕ, zero, suc, ◌-◌, eqb, length, take}
use Rattle.ids.specs.Id.{valid_id}

-- "the station IDs, each a length and its octets, closed by 0"
unfoldable pub fields_of : List (List ℕ) → List ℕ
fields_of [] = 0 ∷ []
fields_of (i ∷ is) = length i ∷ (i ++ fields_of is)

-- one ID's field, and the index of the length octet of the ID number n, the source being 1
abbrev pub field_of : List ℕ → List ℕ
field_of i = length i ∷ i

abbrev pub index_of : ℕ → List (List ℕ) → ℕ
index_of n is = length (fields_of (take (n - 1) is)) - 1

-- the IDs of station fields, k octets of the last ID still to pass
unfoldable pub ids_from : ℕ → List ℕ → List (List ℕ)
ids_from k [] = []
ids_from (suc k) (a ∷ s) = ids_from k s
ids_from zero (a ∷ s) = let is = take a s ∷ ids_from a s in cond (eqb a 0) [] is

abbrev pub ids_of : List ℕ → List (List ℕ)
ids_of s = ids_from 0 s

-- each ID keeps the rule
unfoldable pub all_valid : List (List ℕ) → Bool
all_valid [] = true
all_valid (i ∷ is) = valid_id i && all_valid is
