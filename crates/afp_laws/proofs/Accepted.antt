-- The parts of a frame that the reader accepts can be written; with its header sum calculated the very frame comes back. Assumes nothing.
use mathlib.Core.Path.{◌≡◌, refl, sym, ap, ap₂, ◌∙◌}
use mathlib.Core.Bool.{Bool, true, false, not, ◌||◌}
use mathlib.Core.List.{List, [], ◌∷◌, ◌++◌}
use Prim.Native.Nat.{ℕ, suc, ◌+◌, ◌-◌, ◌/◌, ◌%◌, ◌≤◌, ◌<◌}
use native.Mathlib.Omega.{arith}
use borrow.Author.Tests.{ltb-false, leb-false, eqb-true, eqb-false, not-false, le-ltb, lt-leb, eq-eqb, ne_eqb}
use lib.Dec.{eqb}
use lib.ListN.{length, take, drop, length-drop, take-append-drop, drop_of_length-le}
use lib.Seq.{drop-cons, take-suc, take-add, length-take-le, take-take}
use Rattle.common.proofs.Refusals.{Passed}
use Rattle.common.proofs.FirstRefusal.{passed-++, passed-append}
use Rattle.sums.specs.Sum.{not_calculated, header_sum}
use Rattle.fcs.specs.Fcs.{check_sequence, check_octets}
use Rattle.stations.specs.declared.Next.{Next}
use Rattle.stations.specs.declared.Stations.{Stations}
use Rattle.stations.specs.Fields.{fields_at, stations_of, next_offset, lacks_next}
use Rattle.stations.proofs.Extent.{Accepted, stations_end, stations_local}
use Rattle.stations.proofs.Offset.{Found, offset_none}
use Rattle.stations.proofs.Search.{by_number}
use Rattle.supplementary.specs.Options.{valid_supplementary}
use Rattle.afp.specs.Limits.{min_frame, max_frame, min_header, max_header, fixed_size, max_data, version, first_reserved}
use Rattle.afp.specs.Layout.{octet, offset, checked_length, checked_part, received_check, variable_part, stations_in, received_sum, summed_part, right_header_sum, data_length}
use Rattle.afp_read.specs.Read.{envelope_refusals, fixed_refusals, station_refusals, rest_refusals, refusals}
use Rattle.afp_read.proofs.Answers.{length-variable}
use Rattle.afp_write.specs.Frame.{header_length, with_check, header_before, header_of, frame_of}
use Rattle.afp_write.specs.Write.{part_refusals, size_refusals, write_refusals}
use Rattle.afp_laws.specs.Parts.{encode, encode_refusals, parts_in}

-- ---- pieces of a list
pub last_two : (f : List ℕ) → 2 ≤ length f → drop (checked_length f) f ≡ octet f (checked_length f) ∷ octet f (length f - 1) ∷ []
last_two f h =
    let a : length f - 1 ≡ suc (length f - 2) = omega arith in
    drop-cons f (length f - 2) 0 (omega arith)
    ∙ ap (λ (t : List ℕ). octet f (length f - 2) ∷ t)
    (ap (λ (k : ℕ). drop k f) (sym a) ∙ drop-cons f (length f - 1) 0 (omega arith)
    ∙ ap (λ (t : List ℕ). octet f (length f - 1) ∷ t) (drop_of_length-le f {i = suc (length f - 1)} (omega arith)))

first_five : (f : List ℕ) → fields_at ≤ length f → take fields_at f ≡ octet f 0 ∷ octet f 1 ∷ octet f 2 ∷ octet f 3 ∷ octet f 4 ∷ []
first_five [] h = absurd (omega arith)
first_five (a ∷ []) h = absurd (omega arith)
first_five (a ∷ b ∷ []) h = absurd (omega arith)
first_five (a ∷ b ∷ c ∷ []) h = absurd (omega arith)
first_five (a ∷ b ∷ c ∷ d ∷ []) h = absurd (omega arith)
first_five (a ∷ b ∷ c ∷ d ∷ e ∷ f) h = refl

module _ (f : List ℕ) (ok : Passed (refusals f)) where
  -- ---- what the reader's tests say
  envelope_more : Passed (envelope_refusals f) × Passed (fixed_refusals f ++ (station_refusals f (stations_in f) ++ rest_refusals f (stations_in f).end))
  unfolding refusals
  envelope_more = passed-++ (envelope_refusals f) (fixed_refusals f ++ (station_refusals f (stations_in f) ++ rest_refusals f (stations_in f).end)) ok

  fixed_more : Passed (fixed_refusals f) × Passed (station_refusals f (stations_in f) ++ rest_refusals f (stations_in f).end)
  fixed_more = passed-++ (fixed_refusals f) (station_refusals f (stations_in f) ++ rest_refusals f (stations_in f).end) envelope_more.1

  station_more : Passed (station_refusals f (stations_in f)) × Passed (rest_refusals f (stations_in f).end)
  station_more = passed-++ (station_refusals f (stations_in f)) (rest_refusals f (stations_in f).end) fixed_more.1

  pub long_enough : min_frame ≤ length f
  unfolding envelope_refusals
  long_enough = ltb-false (length f) min_frame envelope_more.0.0

  pub short_enough : length f ≤ max_frame
  unfolding envelope_refusals
  short_enough = ltb-false max_frame (length f) envelope_more.0.1.0

  pub check_right : received_check f ≡ check_sequence (checked_part f)
  unfolding envelope_refusals
  check_right = eqb-true (received_check f) (check_sequence (checked_part f)) (not-false _ envelope_more.0.1.1.0)

  version_is : octet f 1 ≡ version
  unfolding fixed_refusals
  version_is = eqb-true (octet f 1) version (not-false _ fixed_more.0.0)

  pub protocol_below : octet f 2 < first_reserved
  unfolding fixed_refusals
  protocol_below = leb-false first_reserved (octet f 2) fixed_more.0.1.0

  pub offset_low : min_header ≤ offset f
  unfolding fixed_refusals
  offset_low = ltb-false (offset f) min_header fixed_more.0.1.1.0

  pub offset_high : offset f ≤ max_header
  unfolding fixed_refusals
  offset_high = ltb-false max_header (offset f) fixed_more.0.1.1.1.0

  pub offset_in : offset f ≤ checked_length f
  unfolding fixed_refusals
  offset_in = ltb-false (checked_length f) (offset f) fixed_more.0.1.1.1.1.0

  pub stations_accepted : Accepted (stations_in f)
  unfolding station_refusals
  stations_accepted = eqb-false (stations_in f).end 0 station_more.0.0

  pub offset_right : octet f 4 ≡ next_offset (stations_in f).next
  unfolding station_refusals
  offset_right = eqb-true (octet f 4) (next_offset (stations_in f).next) (not-false _ station_more.0.1.0)

  pub next_there : lacks_next (stations_in f) ≡ false
  unfolding station_refusals
  next_there = station_more.0.1.1.0

  pub next_sum_right : octet f 0 ≡ (stations_in f).next.sum
  unfolding station_refusals
  next_sum_right = eqb-true (octet f 0) (stations_in f).next.sum (not-false _ station_more.0.1.1.1.0)

  pub supplementary_valid : valid_supplementary (drop (stations_in f).end (variable_part f)) ≡ true
  unfolding rest_refusals
  supplementary_valid = not-false _ station_more.1.0

  sum_right : (received_sum f ≡ not_calculated → ⊥) → received_sum f ≡ header_sum (summed_part f)
  unfolding rest_refusals right_header_sum
  sum_right c = by (received_sum f) (header_sum (summed_part f)) (eqb (received_sum f) not_calculated) refl c (not-false _ station_more.1.1.0)
    where
      by : (y z : ℕ) (b : Bool) → eqb y not_calculated ≡ b → (y ≡ not_calculated → ⊥) → (b || eqb y z) ≡ true → y ≡ z
      by y z true i c e = absurd (c (eqb-true y not_calculated i))
      by y z false i c e = eqb-true y z e

  pub payload_short : data_length f ≤ max_data
  unfolding rest_refusals
  payload_short = ltb-false max_data (data_length f) station_more.1.1.1.0

  -- ---- the parts
  abbrev v : List ℕ
  v = variable_part f

  abbrev k : ℕ
  k = (stations_in f).end

  abbrev n : ℕ
  n = (stations_in f).next.number

  abbrev s : List ℕ
  s = take k v

  abbrev h : List ℕ
  h = drop k v

  abbrev d : List ℕ
  d = drop (offset f) (checked_part f)

  pub length-v : length v ≡ offset f - fixed_size
  length-v =
      let a = long_enough in
      let b = offset_in in
      length-variable f offset_low (omega arith)

  pub end_in : k ≤ length v
  unfolding stations_in
  end_in = (stations_end (octet f 4 - fields_at) 0 v stations_accepted).1

  pub length-s : length s ≡ k
  length-s = length-take-le k v end_in

  length-h : length h ≡ offset f - fixed_size - k
  length-h = let l = length-v in length-drop k v ∙ omega arith

  pub length-d : length d ≡ data_length f
  length-d = length-drop (offset f) (checked_part f) ∙ ap (λ (l : ℕ). l - offset f) (length-take-le (checked_length f) f (omega arith))

  pub header-length : header_length (length s) (length h) ≡ offset f
  header-length =
      let a = offset_low in
      let l = length-v in
      let e = end_in in
      let ls = length-s in
      let lh = length-h in
      omega arith

  in_is : stations_in f ≡ stations_of (octet f 4 - fields_at) 0 v
  unfolding stations_in
  in_is = refl

  -- the next station found by its number among the station fields and what follows them
  found_by_number : stations_of 0 n v ≡ stations_in f
  found_by_number = by (eqb n 0) refl
    where
      by : (b : Bool) → eqb n 0 ≡ b → stations_of 0 n v ≡ stations_in f
      by true i =
          let z : n ≡ 0 = eqb-true n 0 i in
          let o : octet f 4 ≡ 0 = offset_right ∙ offset_none (stations_in f).next z in
          let w : octet f 4 - fields_at ≡ 0 = omega arith in
          ap₂ (λ (w m : ℕ). stations_of w m v) (sym w) z ∙ sym in_is
      by false i =
          let g : Found (stations_of (octet f 4 - fields_at) 0 v).next = λ z. eqb-false n 0 i (ap (λ (r : Stations). r.next.number) in_is ∙ z) in
          ap (λ (r : Stations). stations_of 0 r.next.number v) in_is ∙ by_number (octet f 4 - fields_at) 0 v g ∙ sym in_is

  -- and among the station fields alone
  pub found_alone : stations_of 0 n s ≡ stations_in f
  found_alone =
      let i : (stations_of 0 n v).end ≡ k = ap (λ (r : Stations). r.end) found_by_number in
      let q : take k s ≡ take k v = take-take k k v (omega arith) in
      stations_local 0 n v (λ z. stations_accepted (sym i ∙ z)) s (rw i q) ∙ found_by_number

  -- ---- no refusal of the writer applies
  part_passes : Passed (part_refusals (octet f 2) s (stations_of 0 n s) n h)
  unfolding part_refusals
  part_passes =
      let i : (stations_of 0 n s).end ≡ k = ap (λ (r : Stations). r.end) found_alone in (
        lt-leb first_reserved (octet f 2) protocol_below,
        (
          ne_eqb (stations_of 0 n s).end 0 (λ z. stations_accepted (sym i ∙ z)),
          (
            ap not (eq-eqb (stations_of 0 n s).end (length s) (i ∙ sym length-s)),
            (
              ap not (eq-eqb (stations_of 0 n s).next.number n (ap (λ (r : Stations). r.next.number) found_alone)),
              (ap lacks_next found_alone ∙ next_there, (ap not supplementary_valid, tt)),
            ),
          ),
        ),
      )

  size_passes : (room : ℕ) → length f ≤ room → Passed (size_refusals (length s) (length h) (length d) room)
  unfolding size_refusals
  size_passes room fits =
      let a = offset_low in
      let b = offset_high in
      let c = offset_in in
      let e = header-length in
      let ld = length-d in
      let g = payload_short in
      let l = long_enough in (
        le-ltb (header_length (length s) (length h)) min_header (omega arith),
        (
          le-ltb max_header (header_length (length s) (length h)) (omega arith),
          (le-ltb max_data (length d) (omega arith), (le-ltb room (header_length (length s) (length h) + length d + 2) (omega arith), tt)),
        ),
      )

  pub parts_pass : (room : ℕ) → length f ≤ room → Passed (encode_refusals (parts_in f) room)
  unfolding encode_refusals write_refusals parts_in
  parts_pass room fits =
      passed-append (part_refusals (octet f 2) s (stations_of 0 n s) n h) (size_refusals (length s) (length h) (length d) room) part_passes (size_passes room fits)

  -- ---- the frame from its parts, and the octet y that stands as its header sum
  abbrev x : Next
  x = (stations_of 0 n s).next

  abbrev p : ℕ
  p = octet f 2

  next_is : x ≡ (stations_in f).next
  next_is = ap (λ (r : Stations). r.next) found_alone

  before_is : header_before p x s h ≡ summed_part f
  unfolding header_before variable_part
  before_is =
      let a = offset_low in
      let b = offset_in in
      let l = long_enough in
      let z : offset f - 1 ≡ fields_at + (offset f - fixed_size) = omega arith in
      ap₂ (λ (v w : ℕ). v ∷ version ∷ p ∷ header_length (length s) (length h) ∷ w ∷ (s ++ h))
      (ap (λ (x : Next). x.sum) next_is ∙ sym next_sum_right) (ap next_offset next_is ∙ sym offset_right)
      ∙ ap₂ (λ (v w : ℕ). octet f 0 ∷ v ∷ p ∷ w ∷ octet f 4 ∷ (s ++ h)) (sym version_is) header-length
      ∙ ap (λ (m : List ℕ). octet f 0 ∷ octet f 1 ∷ p ∷ octet f 3 ∷ octet f 4 ∷ m) (take-append-drop k v)
      ∙ ap (λ (l : List ℕ). l ++ take (offset f - fixed_size) (drop 5 f)) (sym (first_five f (omega arith)))
      ∙ sym (take-add fields_at (offset f - fixed_size) f)
      ∙ ap (λ (k : ℕ). take k f) (sym z)

  header_is : summed_part f ++ (received_sum f ∷ []) ≡ take (offset f) f
  header_is =
      let a = offset_low in
      let b = offset_in in
      let l = long_enough in
      let z : suc (offset f - 1) ≡ offset f = omega arith in
      sym (take-suc f (offset f - 1) 0 (omega arith)) ∙ ap (λ (k : ℕ). take k f) z

  checked_is : (header_before p x s h ++ (received_sum f ∷ [])) ++ d ≡ checked_part f
  checked_is =
      ap (λ (l : List ℕ). (l ++ (received_sum f ∷ [])) ++ d) before_is
      ∙ ap (λ (l : List ℕ). l ++ d) (header_is ∙ sym (take-take (offset f) (checked_length f) f offset_in))
      ∙ take-append-drop (offset f) (checked_part f)

  -- check octets that are octets
  module _ (o : octet f (checked_length f) < 256) where
    check_octets_lem : check_octets (checked_part f) ≡ drop (checked_length f) f
    check_octets_lem =
        let a = long_enough in
        let c = check_right in
        let l : check_sequence (checked_part f) % 256 ≡ octet f (checked_length f) = omega arith in
        let u : check_sequence (checked_part f) / 256 ≡ octet f (length f - 1) = omega arith in
        ap₂ (λ (l u : ℕ). l ∷ u ∷ []) l u ∙ sym (last_two f (omega arith))

    -- header, data and two check octets, nothing between: every accepted frame is this, whatever its header sum
    pub frame_whole : with_check ((header_before p x s h ++ (received_sum f ∷ [])) ++ d) ≡ f
    unfolding with_check
    frame_whole =
        ap (λ (l : List ℕ). l ++ check_octets l) checked_is
        ∙ ap (λ (c : List ℕ). checked_part f ++ c) check_octets_lem
        ∙ take-append-drop (checked_length f) f

    pub frame_again : eqb (received_sum f) not_calculated ≡ false → encode (parts_in f) ≡ f
    unfolding encode frame_of header_of parts_in
    frame_again c =
        let y : header_sum (header_before p x s h) ≡ received_sum f
        = ap header_sum before_is ∙ sym (sum_right (eqb-false (received_sum f) not_calculated c)) in
        ap (λ (y : ℕ). with_check ((header_before p x s h ++ (y ∷ [])) ++ d)) y ∙ frame_whole
