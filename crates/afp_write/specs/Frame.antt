-- The AFP frame of its parts. Cited by the writer, and by the laws of reading and writing. Assumes nothing.
--
--   frame_of p s n h d   the frame of protocol p, station fields s, next ID's number n, supplementary header h, data d
--
-- The station fields are with their closing 0. The supplementary header is with its length octet, and empty where there is none.
use Rattle.std.specs.Prelude.{List, [], ◌∷◌, ◌++◌, ℕ, ◌+◌, length}
use Rattle.sums.specs.Sum.{header_sum}
use Rattle.fcs.specs.Fcs.{check_octets}
use Rattle.stations.specs.declared.Next.{Next}
use Rattle.stations.specs.Fields.{stations_of, next_offset}
use Rattle.afp.specs.Limits.{fixed_size, version}

-- the header's length: five octets, station fields, supplementary header, header sum; s and h are lengths
abbrev pub header_length : ℕ → ℕ → ℕ
header_length s h = fixed_size + (s + h)

-- the header before its sum, x being the next station
unfoldable pub header_before : (p : ℕ) → Next → (s h : List ℕ) → List ℕ
header_before p x s h = x.sum ∷ version ∷ p ∷ header_length (length s) (length h) ∷ next_offset x ∷ (s ++ h)

-- "the writer always calculates"
unfoldable pub header_of : (p : ℕ) → Next → (s h : List ℕ) → List ℕ
header_of p x s h = header_before p x s h ++ (header_sum (header_before p x s h) ∷ [])

-- octets and their check octets
unfoldable pub with_check : List ℕ → List ℕ
with_check xs = xs ++ check_octets xs

unfoldable pub frame_of : (p : ℕ) (s : List ℕ) (n : ℕ) (h d : List ℕ) → List ℕ
frame_of p s n h d = with_check (header_of p (stations_of 0 n s).next s h ++ d)
