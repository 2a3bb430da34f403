-- A frame that the full reader accepts is for the station that its meaning names, or for everybody. Assumes nothing.
use mathlib.Core.Path.{◌≡◌, refl, sym, ap, ap₂, ◌∙◌}
use mathlib.Core.Bool.{Bool, true, false, not}
use mathlib.Core.List.{List, [], ◌∷◌, ◌++◌, append-nil}
use Prim.Native.Nat.{ℕ, suc, ◌+◌, ◌-◌, ◌≤◌}
use native.Mathlib.Omega.{arith}
use borrow.Author.Tests.{le-leb, le-ltb, eq-eqb, ne_eqb, eqb-true, eqb-false}
use lib.Dec.{eqb}
use lib.ListN.{length, get_or, take, drop, take-append-drop}
use lib.Seq.{drop-drop, get_or-drop, take_at}
use Rattle.common.proofs.Refusals.{Passed, guarded_done}
use Rattle.common.proofs.FirstRefusal.{passed-append}
use Rattle.sums.specs.Sum.{broadcast_sum, next_station_sum}
use Rattle.stations.specs.Fields.{fields_at, no_next, stations_of}
use Rattle.stations.specs.IdList.{fields_of, field_of, ids_of}
use Rattle.stations.specs.declared.Next.{Next}
use Rattle.stations.specs.declared.Stations.{Stations}
use Rattle.stations.proofs.Offset.{offset_none, offset_some}
use Rattle.stations.proofs.NextField.{next_of, next_number_lem, next_none}
use Rattle.stations.proofs.FieldPlace.{index_after, field_there, field_ends, valid_at, index_later}
use Rattle.afp.specs.Limits.{min_frame, max_frame, min_header, max_header}
use Rattle.afp.specs.Layout.{octet, offset, checked_length, variable_part, stations_in}
use Rattle.afp.specs.Sizes.{length_refusals, offset_refusals}
use Rattle.afp_read.specs.Read.{refusals, read_of}
use Rattle.afp_read.specs.Meaning.{Meaning, means, meaning, shown, verdict}
use Rattle.afp_read.proofs.Answers.{fields_shown, read_meaning}
use Rattle.afp_receiver.specs.Receiver.{pointer, is_broadcast, id_length, id_pointed_at, field_part, field_pointed_at, last_place, first_next, pointer_refusals, end_refusals, id_refusals, sum_refusals, field_refusals, receiver_refusals, pointed_at, receiver_of}
use Rattle.afp_receiver.specs.declared.Receiver.{Receiver}
use Rattle.afp_receiver.specs.declared.Receiver.TheVariants.{Refused, Broadcast, Station}
use Rattle.afp_laws.specs.Parts.{parts_in, meaning_of}
use Rattle.afp_laws.specs.Receivers.{everybody, station, named_by, shown_by}
use Rattle.afp_laws.proofs.Accepted.{long_enough, short_enough, offset_low, offset_high, offset_in, offset_right, next_sum_right, end_in, length-v, length-s}
use Rattle.afp_laws.proofs.ReadProper.{number_later, alone, fields_are, valid, some, found}
use Rattle.afp_laws.proofs.Meanings.{meaning_passed, meaning_is}

module _ (f : List ℕ) (ok : Passed (refusals f)) where
  abbrev n : ℕ
  n = (stations_in f).next.number

  abbrev is : List (List ℕ)
  is = ids_of (take (stations_in f).end (variable_part f))

  -- ---- the next station, by the IDs
  next_in : (stations_in f).next ≡ (stations_of 0 n (fields_of is ++ [])).next
  next_in =
      ap (λ (r : Stations). r.next) (sym (alone f ok)) ∙ ap (λ (t : List ℕ). (stations_of 0 n t).next) (sym (fields_are f ok) ∙ sym (append-nil (fields_of is)))

  -- ---- what is refused of any frame is not refused of this one
  sizes_pass : Passed (length_refusals (length f)) × Passed (offset_refusals (offset f) (length f))
  sizes_pass = (
    (le-ltb (length f) min_frame (long_enough f ok), (le-ltb max_frame (length f) (short_enough f ok), tt)),
    (le-ltb (offset f) min_header (offset_low f ok), (le-ltb max_header (offset f) (offset_high f ok), (le-ltb (checked_length f) (offset f) (offset_in f ok), tt))),
  )

  receiver_is : Passed (pointer_refusals f) → Passed (field_refusals f) → receiver_of f ≡ pointed_at f
  unfolding receiver_of receiver_refusals
  receiver_is p q =
      guarded_done Refused (pointed_at f) (receiver_refusals f)
      (passed-append (length_refusals (length f)) (offset_refusals (offset f) (length f) ++ (pointer_refusals f ++ field_refusals f)) sizes_pass.0
      (passed-append (offset_refusals (offset f) (length f)) (pointer_refusals f ++ field_refusals f) sizes_pass.1 (passed-append (pointer_refusals f) (field_refusals f) p q)))

  -- ---- no next ID
  module _ (z : n ≡ 0) where
    none_next : (stations_in f).next ≡ no_next
    none_next = next_in ∙ next_none n is [] (valid f ok) (some f ok) (λ l. absurd (omega arith))

    points_nowhere : is_broadcast f ≡ true
    points_nowhere = eq-eqb (pointer f) 0 (offset_right f ok ∙ offset_none (stations_in f).next z)

    sum_FF : octet f 0 ≡ broadcast_sum
    sum_FF = next_sum_right f ok ∙ ap (λ (x : Next). x.sum) none_next

    pub everybody_named : receiver_of f ≡ Broadcast
    unfolding pointer_refusals field_refusals end_refusals id_refusals sum_refusals
    everybody_named =
        receiver_is (rw points_nowhere, tt) (rw points_nowhere, (rw points_nowhere, (rw points_nowhere (ap not (eq-eqb (octet f 0) broadcast_sum sum_FF)), tt)))
        ∙ rw points_nowhere

  -- ---- a next ID
  module _ (z : n ≡ 0 → ⊥) where
    -- its number in order from 0, the ID, and what stands behind the station fields
    abbrev j : ℕ
    j = n - 1

    abbrev id : List ℕ
    id = get_or is j []

    abbrev behind : List ℕ
    behind = drop (stations_in f).end (drop fields_at f)

    abbrev rest : List ℕ
    rest = fields_of (drop (suc j) is) ++ behind

    later : (2 ≤ n) × (n ≤ length is)
    later = number_later n is (valid f ok) (some f ok) (found f ok) z

    some_next : (stations_in f).next ≡ next_of n is
    some_next = next_in ∙ next_number_lem n is [] (valid f ok) later.0 later.1

    place_is : pointer f ≡ fields_at + index_after j is
    place_is = offset_right f ok ∙ offset_some (stations_in f).next z ∙ ap (λ (x : Next). fields_at + x.index) some_next

    points : is_broadcast f ≡ false
    points = ne_eqb (pointer f) 0 (λ e. let p = place_is in omega arith)

    in_fields : drop fields_at f ≡ fields_of is ++ behind
    in_fields =
        sym (take-append-drop (stations_in f).end (drop fields_at f))
        ∙ ap (λ (s : List ℕ). s ++ behind) (fields_shown f ∙ sym (fields_are f ok))

    there : drop (pointer f) f ≡ length id ∷ (id ++ rest)
    there =
        let l = later in
        ap (λ (p : ℕ). drop p f) place_is
        ∙ sym (drop-drop (index_after j is) fields_at f)
        ∙ ap (drop (index_after j is)) in_fields
        ∙ field_there j is behind (omega arith)

    length-is : id_length f ≡ length id
    length-is =
        let e : pointer f ≡ pointer f + 0 = omega arith in
        ap (octet f) e ∙ sym (get_or-drop (pointer f) f 0 0) ∙ ap (λ (xs : List ℕ). get_or xs 0 0) there

    id_is : id_pointed_at f ≡ id
    id_is =
        ap (take (id_length f)) (sym (drop-drop 1 (pointer f) f) ∙ ap (drop 1) there)
        ∙ take_at id rest (id_length f) (sym length-is)

    field_is : field_pointed_at f ≡ field_of id
    field_is =
        let e : 1 + id_length f ≡ suc (length id) = let l = length-is in omega arith in
        ap₂ (λ (k : ℕ) (xs : List ℕ). take k xs) e there
        ∙ ap (λ (xs : List ℕ). length id ∷ xs) (take_at id rest (length id) refl)

    place_in : (first_next ≤ pointer f) × (last_place f ≤ offset f - 3)
    place_in =
        let l = later in
        let p = place_is in
        let a = index_later j is (valid f ok) (omega arith) (omega arith) in
        let b = field_ends j is (omega arith) in
        let c = ap length (fields_are f ok) in
        let d = length-s f ok in
        let e = end_in f ok in
        let g = length-v f ok in
        let k = length-is in
        (omega arith, omega arith)

    sum_is : octet f 0 ≡ next_station_sum (field_pointed_at f)
    sum_is = next_sum_right f ok ∙ ap (λ (x : Next). x.sum) some_next ∙ ap next_station_sum (sym field_is)

    pointer_passes : Passed (pointer_refusals f)
    unfolding pointer_refusals
    pointer_passes =
        let q = place_in in
        let o = offset_low f ok in
        (rw (points, le-leb first_next (pointer f) q.0, le-leb (pointer f) (offset f - 2) (omega arith)), tt)

    field_passes : Passed (field_refusals f)
    unfolding field_refusals end_refusals id_refusals sum_refusals
    field_passes = (
      rw (points, le-ltb (offset f - 3) (last_place f) place_in.1),
      (
        rw (points, id_is, valid_at j is (valid f ok) (let l = later in omega arith)),
        (rw points (ap not (eq-eqb (octet f 0) (next_station_sum (field_pointed_at f)) sum_is)), tt),
      ),
    )

    pub station_named : shown_by (receiver_of f) f ≡ station (field_of id)
    station_named =
        let e : receiver_of f ≡ Station (field_part f) = receiver_is pointer_passes field_passes ∙ rw points in
        ap (λ (r : Receiver). shown_by r f) e ∙ ap station field_is

named_all : (f : List ℕ) → eqb (stations_in f).next.number 0 ≡ true → everybody ≡ named_by (meaning_of (parts_in f))
unfolding meaning_of parts_in
named_all f i = rw i

named_one : (f : List ℕ) → eqb (stations_in f).next.number 0 ≡ false
    → station (field_of (get_or (ids_of (take (stations_in f).end (variable_part f))) ((stations_in f).next.number - 1) [])) ≡ named_by (meaning_of (parts_in f))
unfolding meaning_of parts_in
named_one f i = rw i

-- "For each frame that the full reader accepts, both name the same station, or both say broadcast."
pub same_receiver : (f : List ℕ) (m : Meaning) (u : Bool) → meaning f ≡ means m u → shown_by (receiver_of f) f ≡ named_by m
same_receiver f m u e = by (eqb (n f ok) 0) refl ∙ ap named_by (meaning_is f m u e)
  where
    ok : Passed (refusals f)
    ok = meaning_passed f m u e

    by : (b : Bool) → eqb (n f ok) 0 ≡ b → shown_by (receiver_of f) f ≡ named_by (meaning_of (parts_in f))
    by true i = ap (λ (r : Receiver). shown_by r f) (everybody_named f ok (eqb-true (n f ok) 0 i)) ∙ named_all f i
    by false i = station_named f ok (eqb-false (n f ok) 0 i) ∙ named_one f i

-- the same of what a caller gets of both: a frame is accepted where the number is 0, and the answer shows its meaning
pub both_name : (f : List ℕ) → (read_of f).number ≡ 0 → shown_by (receiver_of f) f ≡ named_by (shown (read_of f) f)
unfolding verdict
both_name f e = same_receiver f (shown (read_of f) f) (read_of f).unchecked (sym (read_meaning f) ∙ rw (eq-eqb (read_of f).number 0 e))
