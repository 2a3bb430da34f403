-- What stands where in an AFP frame f. Cited by the specs of every reader of frames, and by the laws of reading and writing. Assumes nothing.
--
--   octets 0 next-station sum; 1 version; 2 upper protocol; 3 data offset; 4 next-station offset; from 5 the station fields;
--   a supplementary header or none; header sum; data; two check octets
use Rattle.std.specs.Prelude.{Bool, ◌||◌, List, ℕ, ◌+◌, ◌-◌, ◌*◌, eqb, length, get_or, take, drop}
use Rattle.sums.specs.Sum.{not_calculated, header_sum}
use Rattle.stations.specs.Fields.{fields_at, stations_of}
use Rattle.stations.specs.declared.Stations.{Stations}
use Rattle.afp.specs.Limits.{fixed_size}
use Rattle.afp.specs.declared.Part.{Part}

-- the octet at a place; 0 behind the end
abbrev pub octet : List ℕ → ℕ → ℕ
octet f i = get_or f i 0

-- octet 3, the header's whole length
abbrev pub offset : List ℕ → ℕ
offset f = octet f 3

-- how many octets stand before the two check octets, and these octets: header and data
abbrev pub checked_length : List ℕ → ℕ
checked_length f = length f - 2

abbrev pub checked_part : List ℕ → List ℕ
checked_part f = take (checked_length f) f

-- the received check sequence, low octet first
abbrev pub received_check : List ℕ → ℕ
received_check f = octet f (checked_length f) + octet f (length f - 1) * 256

-- station fields and supplementary header: from octet 5 to the header sum
unfoldable pub variable_part : List ℕ → List ℕ
variable_part f = take (offset f - fixed_size) (drop fields_at f)

-- what the station fields hold, the next one found by octet 4
unfoldable pub stations_in : List ℕ → Stations
stations_in f = stations_of (octet f 4 - fields_at) 0 (variable_part f)

-- the received header sum, and the octets before it
abbrev pub received_sum : List ℕ → ℕ
received_sum f = octet f (offset f - 1)

abbrev pub summed_part : List ℕ → List ℕ
summed_part f = take (offset f - 1) f

-- "a received 0 means 'not calculated': accepted and reported unchecked"
unfoldable pub right_header_sum : ℕ → List ℕ → Bool
right_header_sum x xs = eqb x not_calculated || eqb x (header_sum xs)

-- how many octets of data
abbrev pub data_length : List ℕ → ℕ
data_length f = checked_length f - offset f

-- ---- a part of a frame, by place and size
-- its octets; what lies behind the end is left out
abbrev pub part_of : Part → List ℕ → List ℕ
part_of q f = take q.size (drop q.place f)

-- no part
abbrev pub no_part : Part
no_part = record { place = 0; size = 0 }
