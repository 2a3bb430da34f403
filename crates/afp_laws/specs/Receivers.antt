-- Who a frame is for next, by its meaning and by the answer of `next_receiver`; and which octets that answer looks at (2026-09).
-- Cited by the theorems on it. Assumes nothing.
--
--   named_by m, shown_by r f   who is named: by a meaning, by an answer r to the frame f
--   those f i                the place i is one of "octets 0, 3, 4 and the one station field pointed at"
--   looked_at f               the places that are looked at: of a refused frame not all of those
use Rattle.std.specs.Prelude.{Bool, not, cond, ◌||◌, ◌&&◌, List, [], ◌∷◌, ◌++◌, ℕ, zero, suc, ◌+◌, ◌-◌, eqb, length, get_or}
use Rattle.common.specs.Refusals.{Refusal, guarded}
use Rattle.ids.specs.Id.{between}
use Rattle.stations.specs.IdList.{field_of}
use Rattle.afp.specs.Layout.{offset, part_of}
use Rattle.afp.specs.Sizes.{length_refusals, offset_refusals}
use Rattle.afp_read.specs.Meaning.{Meaning}
use Rattle.afp_receiver.specs.Receiver.{pointer, is_broadcast, id_length, last_place, pointer_refusals, end_refusals, id_refusals}
use Rattle.afp_receiver.specs.declared.Receiver.{Receiver}
use Rattle.afp_receiver.specs.declared.Receiver.TheVariants.{Refused, Broadcast, Station}

-- ---- who is named
pub data Named : Type 0 where
  nobody : ℕ → Named  -- a refusal, by its number
  everybody : Named
  station : List ℕ → Named  -- by its field: a length octet and the ID

-- "next ID": its number in order, 0 in a broadcast
abbrev pub named_by : Meaning → Named
named_by m = cond (eqb m.next 0) everybody (station (field_of (get_or m.ids (m.next - 1) [])))

abbrev pub shown_by : Receiver → List ℕ → Named
shown_by (Refused n) f = nobody n
shown_by Broadcast f = everybody
shown_by (Station q) f = station (part_of q f)

-- ---- which octets are looked at
-- "octets 0, 3, 4 and the one station field pointed at"; a broadcast points at none
unfoldable pub those : List ℕ → ℕ → Bool
those f i = eqb i 0 || (eqb i 3 || (eqb i 4 || (not (is_broadcast f) && between (pointer f) (last_place f) i)))

-- places that are looked at only where none of these refusals applies
abbrev pub unless : List Refusal → List ℕ → List ℕ
unless ts places = guarded ts (λ n. []) places

-- n places from i on
unfoldable pub run : (i n : ℕ) → List ℕ
run i zero = []
run i (suc n) = i ∷ run (i + 1) n

-- of the field pointed at its length octet, and the ID unless it ends too late
unfoldable pub field_places : List ℕ → List ℕ
field_places f = cond (is_broadcast f) [] (pointer f ∷ unless (end_refusals f) (run (pointer f + 1) (id_length f)))

-- in the order of the refusals: octet 3 where the length is not refused, octet 4 where octet 3 is not, the field where octet 4 is not, and octet 0
-- where the field is not
unfoldable pub looked_at : List ℕ → List ℕ
looked_at f =
    unless (length_refusals (length f))
    (3
    ∷ unless (offset_refusals (offset f) (length f))
    (4
    ∷ unless (pointer_refusals f) (field_places f ++ unless (end_refusals f ++ id_refusals f) (0 ∷ []))))
