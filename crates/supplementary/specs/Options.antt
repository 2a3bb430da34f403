-- The supplementary header. Cited by supplementary's code, and by reader, writer and meaning of a frame. Assumes nothing.
--
--   valid_supplementary s     s is nothing, or a supplementary header
--   supplementary_octets o    the octets of an absent or a present supplementary header
--   supplementary_in s        the reverse: absent and present with length 0 are different
use Rattle.std.specs.Prelude.{Bool, true, false, cond, ◌&&◌, List, [], ◌∷◌, ℕ, zero, suc, ◌+◌, leb, eqb, length}
use Rattle.std.proofs.Math.Option.{Option, none, some}

-- "type 0 is the originating callsign the first time, the terminating one the second, a third is bad"
abbrev pub callsign_type : ℕ
callsign_type = 0

abbrev pub most_callsigns : ℕ
most_callsigns = 2

-- callsigns after an option of type t, of z before it
unfoldable pub callsigns_after : ℕ → ℕ → ℕ
callsigns_after t z = cond (eqb t callsign_type) (z + 1) z

-- "made wholly of options (type, length, value)": z callsigns passed, k octets of the last value still to pass
unfoldable pub valid_options : ℕ → ℕ → List ℕ → Bool
valid_options z (suc k) [] = false
valid_options z (suc k) (x ∷ s) = valid_options z k s
valid_options z zero [] = true
valid_options z zero (t ∷ []) = false
valid_options z zero (t ∷ l ∷ s) = leb (callsigns_after t z) most_callsigns && valid_options (callsigns_after t z) l s

-- nothing, or "a length, then exactly that many octets"
unfoldable pub valid_supplementary : List ℕ → Bool
valid_supplementary [] = true
valid_supplementary (l ∷ s) = eqb l (length s) && valid_options 0 0 s

-- the octets in a frame: none, or the length and the octets
unfoldable pub supplementary_octets : Option (List ℕ) → List ℕ
supplementary_octets none = []
supplementary_octets (some s) = length s ∷ s

unfoldable pub supplementary_in : List ℕ → Option (List ℕ)
supplementary_in [] = none
supplementary_in (l ∷ s) = some s
