-- Who an AFP frame f is for next, without reading the rest of it (2026-09): "Answer who the next receiver is from octets 0, 3, 4 and the one station
-- field pointed at, which is shown, length octet too, as a part of the frame." Cited by `next_receiver`, and by the theorems on it. Assumes nothing.
--
--   receiver_refusals f   30, 34, 36, 35, 37 in that order, each with the test that it is given for
--   receiver_of f         the answer; its ID rule, sum and limits are the full reader's
--   number, field        the number and the values that each case of an answer stands for
use Rattle.std.specs.Prelude.{Bool, not, cond, ◌||◌, ◌&&◌, List, [], ◌∷◌, ◌++◌, ℕ, ◌+◌, ◌-◌, ltb, eqb, length, take, drop}
use Rattle.common.specs.Refusals.{Refusal, guarded}
use Rattle.sums.specs.Sum.{broadcast_sum, next_station_sum}
use Rattle.ids.specs.Id.{between, valid_id}
use Rattle.stations.specs.Fields.{fields_at}
use Rattle.afp.specs.Answers.{done, bad_stations, bad_next, bad_next_sum}
use Rattle.afp.specs.Layout.{octet, offset, part_of, no_part}
use Rattle.afp.specs.Sizes.{length_refusals, offset_refusals}
use Rattle.afp.specs.declared.Part.{Part}
use Rattle.afp_receiver.specs.declared.Receiver.{Receiver}
use Rattle.afp_receiver.specs.declared.Receiver.TheVariants.{Refused, Broadcast, Station}

-- ---- what octet 4 points at
-- octet 4 is 0 in a broadcast, else the place of the next station's length octet
abbrev pub pointer : List ℕ → ℕ
pointer f = octet f 4

abbrev pub is_broadcast : List ℕ → Bool
is_broadcast f = eqb (pointer f) 0

-- how many octets the ID there has, by its length octet; and the ID
abbrev pub id_length : List ℕ → ℕ
id_length f = octet f (pointer f)

abbrev pub id_pointed_at : List ℕ → List ℕ
id_pointed_at f = take (id_length f) (drop (pointer f + 1) f)

-- "the one station field pointed at ... length octet too", as a part of the frame and as octets
abbrev pub field_part : List ℕ → Part
field_part f = record { place = pointer f; size = 1 + id_length f }

abbrev pub field_pointed_at : List ℕ → List ℕ
field_pointed_at f = part_of (field_part f) f

-- the place of its last octet
abbrev pub last_place : List ℕ → ℕ
last_place f = pointer f + id_length f

-- ---- the refusals
-- the first place of a second ID: a source of one octet, with its length octet, may stand before it
abbrev pub first_next : ℕ
first_next = fields_at + 2

-- "36 where octet 4 is neither 0 nor a place from 7 to two before the data offset"
unfoldable pub pointer_refusals : List ℕ → List Refusal
pointer_refusals f = (not (is_broadcast f || between first_next (offset f - 2) (pointer f)), bad_next) ∷ []

-- "35 where that field breaks the ID rule or its last octet stands later than three before the data offset"; a broadcast points at no field
unfoldable pub end_refusals : List ℕ → List Refusal
end_refusals f = (not (is_broadcast f) && ltb (offset f - 3) (last_place f), bad_stations) ∷ []

unfoldable pub id_refusals : List ℕ → List Refusal
id_refusals f = (not (is_broadcast f) && not (valid_id (id_pointed_at f)), bad_stations) ∷ []

-- "37 as in 01": octet 0 is FF in a broadcast, else "the sum over that field, length octet too, with FF written as 0"
abbrev pub right_sum : List ℕ → ℕ
right_sum f = cond (is_broadcast f) broadcast_sum (next_station_sum (field_pointed_at f))

unfoldable pub sum_refusals : List ℕ → List Refusal
sum_refusals f = (not (eqb (octet f 0) (right_sum f)), bad_next_sum) ∷ []

-- "Refusals: 30, 34, 36 ..., 35 ..., 37 as in 01, in that order"
unfoldable pub field_refusals : List ℕ → List Refusal
field_refusals f = end_refusals f ++ (id_refusals f ++ sum_refusals f)

unfoldable pub receiver_refusals : List ℕ → List Refusal
receiver_refusals f = length_refusals (length f) ++ (offset_refusals (offset f) (length f) ++ (pointer_refusals f ++ field_refusals f))

-- ---- the answer
-- where nothing is refused: all stations, or the one pointed at
abbrev pub pointed_at : List ℕ → Receiver
pointed_at f = cond (is_broadcast f) Broadcast (Station (field_part f))

unfoldable pub receiver_of : List ℕ → Receiver
receiver_of f = guarded (receiver_refusals f) Refused (pointed_at f)

-- the number given back, and the field's place and size: 0 and 0 unless a station is named
abbrev pub number : Receiver → ℕ
number (Refused n) = n
number Broadcast = done
number (Station q) = done

abbrev pub field : Receiver → Part
field (Refused n) = no_part
field Broadcast = no_part
field (Station q) = q
