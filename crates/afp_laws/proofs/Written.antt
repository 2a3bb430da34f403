-- A frame that the writer accepts reads as what it was given, checked. Assumes nothing.
use Prim.Native.Nat.{ℕ, ◌+◌, ◌-◌, ◌≤◌, ◌<◌}
use mathlib.Core.Bool.{Bool, true, false, not}
use mathlib.Core.List.{List, ◌++◌}
use mathlib.Core.Path.{◌≡◌, refl, sym, ap, ap₂, ◌∙◌}
use native.Mathlib.Omega.{arith}
use borrow.Author.Tests.{ltb-false, leb-false, eqb-true, eqb-false, not-false, le-ltb, lt-leb, eq-eqb, ne_eqb}
use lib.Dec.{leb, eqb}
use lib.ListN.{length, take, drop}
use lib.Seq.{take_at, drop_at, take-length}
use Rattle.afp.specs.Layout.{octet, offset, checked_length, checked_part, received_check, variable_part, stations_in, received_sum, summed_part, right_header_sum, data_length}
use Rattle.afp.specs.Limits.{min_frame, max_frame, min_header, max_header, max_data, version, first_reserved}
use Rattle.afp_read.specs.Read.{envelope_refusals, fixed_refusals, station_refusals, rest_refusals, refusals}
use Rattle.afp_laws.proofs.Frames as frames
use Rattle.afp_laws.specs.Parts.{Parts, encode, encode_refusals, parts_in}
use Rattle.afp_write.proofs.Buffers.{length-header, length-frame}
use Rattle.afp_write.specs.Frame.{header_length, header_before, header_of, frame_of}
use Rattle.afp_write.specs.Write.{part_refusals, size_refusals, write_refusals}
use Rattle.common.proofs.Bools.{or_right}
use Rattle.common.proofs.FirstRefusal.{passed-++, passed-append}
use Rattle.common.proofs.Refusals.{Passed}
use Rattle.fcs.specs.Fcs.{check_sequence, check_octets}
use Rattle.stations.proofs.Extent.{Accepted, stations_local}
use Rattle.stations.proofs.Offset.{Found, offset_none, offset_some}
use Rattle.stations.proofs.Search.{by_index}
use Rattle.stations.specs.Fields.{fields_at, stations_of, next_offset, lacks_next}
use Rattle.stations.specs.declared.Next.{Next}
use Rattle.stations.specs.declared.Stations.{Stations}
use Rattle.sums.proofs.Sum.{header_calculated}
use Rattle.sums.specs.Sum.{not_calculated, header_sum}
use Rattle.supplementary.specs.Options.{valid_supplementary}

-- ---- the next station's offset finds it again, in a list t that begins with the fields s
module _ (n : ℕ) (s t : List ℕ) (a : Accepted (stations_of 0 n s)) (e : (stations_of 0 n s).next.number ≡ n)
    (q : take (stations_of 0 n s).end t ≡ take (stations_of 0 n s).end s) where
  same : stations_of 0 n t ≡ stations_of 0 n s
  same = stations_local 0 n s a t q

  offset_finds : stations_of (next_offset (stations_of 0 n s).next - fields_at) 0 t ≡ stations_of 0 n s
  offset_finds = by (eqb n 0) refl
    where
      by : (b : Bool) → eqb n 0 ≡ b → stations_of (next_offset (stations_of 0 n s).next - fields_at) 0 t ≡ stations_of 0 n s
      by true i =
          let z : n ≡ 0 = eqb-true n 0 i in
          let o : next_offset (stations_of 0 n s).next ≡ 0 = offset_none (stations_of 0 n s).next (e ∙ z) in
          let w : next_offset (stations_of 0 n s).next - fields_at ≡ 0 = omega arith in
          ap₂ (λ (w m : ℕ). stations_of w m t) w (sym z) ∙ same
      by false i =
          let g : Found (stations_of 0 n s).next = λ z. eqb-false n 0 i (sym e ∙ z) in
          let f : Found (stations_of 0 n t).next = λ z. g (ap (λ (r : Stations). r.next.number) (sym same) ∙ z) in
          let o : next_offset (stations_of 0 n s).next ≡ fields_at + (stations_of 0 n s).next.index = offset_some (stations_of 0 n s).next g in
          let k : (stations_of 0 n t).next.index ≡ (stations_of 0 n s).next.index = ap (λ (r : Stations). r.next.index) same in
          let w : next_offset (stations_of 0 n s).next - fields_at ≡ (stations_of 0 n t).next.index = omega arith in
          ap (λ (w : ℕ). stations_of w 0 t) w ∙ by_index 0 n t f ∙ same

module _ (p : ℕ) (s : List ℕ) (n : ℕ) (h d : List ℕ) (room : ℕ) (ok : Passed (write_refusals p s n h d room)) where
  -- ---- what the writer's tests say
  parts : Passed (part_refusals p s (stations_of 0 n s) n h)
  unfolding write_refusals
  parts = (passed-++ (part_refusals p s (stations_of 0 n s) n h) (size_refusals (length s) (length h) (length d) room) ok).0

  sizes : Passed (size_refusals (length s) (length h) (length d) room)
  unfolding write_refusals
  sizes = (passed-++ (part_refusals p s (stations_of 0 n s) n h) (size_refusals (length s) (length h) (length d) room) ok).1

  protocol_low : p < first_reserved
  unfolding part_refusals
  protocol_low = leb-false first_reserved p parts.0

  pub accepted : Accepted (stations_of 0 n s)
  unfolding part_refusals
  accepted = eqb-false (stations_of 0 n s).end 0 parts.1.0

  pub ended : (stations_of 0 n s).end ≡ length s
  unfolding part_refusals
  ended = eqb-true (stations_of 0 n s).end (length s) (not-false _ parts.1.1.0)

  number_is : (stations_of 0 n s).next.number ≡ n
  unfolding part_refusals
  number_is = eqb-true (stations_of 0 n s).next.number n (not-false _ parts.1.1.1.0)

  not_lacking : lacks_next (stations_of 0 n s) ≡ false
  unfolding part_refusals
  not_lacking = parts.1.1.1.1.0

  pub valid : valid_supplementary h ≡ true
  unfolding part_refusals
  valid = not-false _ parts.1.1.1.1.1.0

  low : min_header ≤ header_length (length s) (length h)
  unfolding size_refusals
  low = ltb-false (header_length (length s) (length h)) min_header sizes.0

  high : header_length (length s) (length h) ≤ max_header
  unfolding size_refusals
  high = ltb-false max_header (header_length (length s) (length h)) sizes.1.0

  short : length d ≤ max_data
  unfolding size_refusals
  short = ltb-false max_data (length d) sizes.1.1.0

  -- ---- what stands where in the frame
  abbrev x : Next
  x = (stations_of 0 n s).next

  abbrev y : ℕ
  y = header_sum (header_before p x s h)

  abbrev t : List ℕ
  t = d ++ check_octets (header_of p x s h ++ d)

  abbrev f : List ℕ
  f = frame_of p s n h d

  is : f ≡ frames.whole p x s h y t
  is = frames.frame_is p s n h d

  pub length-is : length f ≡ header_length (length s) (length h) + length d + 2
  length-is = length-frame p s n h d

  offset_is : offset f ≡ header_length (length s) (length h)
  offset_is = ap offset is ∙ frames.octet_3 p x s h y t

  protocol_is : octet f 2 ≡ p
  protocol_is = ap (λ (f : List ℕ). octet f 2) is ∙ frames.octet_2 p x s h y t

  fourth_is : octet f 4 ≡ next_offset x
  fourth_is = ap (λ (f : List ℕ). octet f 4) is ∙ frames.octet_4 p x s h y t

  variable_is : variable_part f ≡ s ++ h
  variable_is = ap variable_part is ∙ frames.variable_is p x s h y t

  stations_is : stations_in f ≡ stations_of 0 n s
  unfolding stations_in
  stations_is =
      ap₂ (λ (w : ℕ) (m : List ℕ). stations_of (w - fields_at) 0 m) fourth_is variable_is
      ∙ offset_finds n s (s ++ h) accepted number_is (rw (ended, take-length s) (take_at s h (length s) refl))

  end_is : (stations_in f).end ≡ length s
  end_is = ap (λ (r : Stations). r.end) stations_is ∙ ended

  sum_is : received_sum f ≡ y
  sum_is = ap received_sum is ∙ frames.sum_is p x s h y t

  summed_is : summed_part f ≡ header_before p x s h
  summed_is = ap summed_part is ∙ frames.summed_is p x s h y t

  checked_is : checked_part f ≡ header_of p x s h ++ d
  unfolding frame_of
  checked_is = frames.checked-with_check (header_of p x s h ++ d)

  check_is : received_check f ≡ check_sequence (checked_part f)
  unfolding frame_of
  check_is = frames.check-with_check (header_of p x s h ++ d) ∙ ap check_sequence (sym (frames.checked-with_check (header_of p x s h ++ d)))

  -- ---- no refusal of the reader applies
  envelope_passes : Passed (envelope_refusals f)
  unfolding envelope_refusals
  envelope_passes =
      let l = length-is in
      let a = low in
      let b = high in
      let c = short in
      (le-ltb (length f) min_frame (omega arith), (le-ltb max_frame (length f) (omega arith), (ap not (eq-eqb (received_check f) (check_sequence (checked_part f)) check_is), tt)))

  fixed_passes : Passed (fixed_refusals f)
  unfolding fixed_refusals
  fixed_passes =
      let l = length-is in
      let o = offset_is in
      let a = low in
      let b = high in (
        ap not (eq-eqb (octet f 1) version (ap (λ (f : List ℕ). octet f 1) is ∙ frames.octet_1 p x s h y t)),
        (
          ap (leb first_reserved) protocol_is ∙ lt-leb first_reserved p protocol_low,
          (
            le-ltb (offset f) min_header (omega arith),
            (le-ltb max_header (offset f) (omega arith), (le-ltb (checked_length f) (offset f) (omega arith), tt)),
          ),
        ),
      )

  station_passes : Passed (station_refusals f (stations_in f))
  unfolding station_refusals
  station_passes = (
    ne_eqb (stations_in f).end 0 (λ z. accepted (ap (λ (r : Stations). r.end) (sym stations_is) ∙ z)),
    (
      ap not (eq-eqb (octet f 4) (next_offset (stations_in f).next) (fourth_is ∙ ap (λ (r : Stations). next_offset r.next) (sym stations_is))),
      (
        ap lacks_next stations_is ∙ not_lacking,
        (
          ap not (eq-eqb (octet f 0) (stations_in f).next.sum
              (ap (λ (f : List ℕ). octet f 0) is ∙ frames.octet_0 p x s h y t ∙ ap (λ (r : Stations). r.next.sum) (sym stations_is))),
          tt,
        ),
      ),
    ),
  )

  -- what is left behind the station fields
  rest_is : drop (stations_in f).end (variable_part f) ≡ h
  rest_is = ap₂ drop end_is variable_is ∙ drop_at s h (length s) refl

  rest_passes : Passed (rest_refusals f (stations_in f).end)
  unfolding rest_refusals right_header_sum
  rest_passes =
      let l = length-is in
      let o = offset_is in
      let c = short in (
        ap not (ap valid_supplementary rest_is ∙ valid),
        (
          ap not (or_right (eqb (received_sum f) not_calculated) (eqb (received_sum f) (header_sum (summed_part f)))
              (eq-eqb (received_sum f) (header_sum (summed_part f)) (sum_is ∙ ap header_sum (sym summed_is)))),
          (le-ltb max_data (data_length f) (omega arith), tt),
        ),
      )

  pub frame_passes : Passed (refusals f)
  unfolding refusals
  frame_passes =
      passed-append (envelope_refusals f) (fixed_refusals f ++ (station_refusals f (stations_in f) ++ rest_refusals f (stations_in f).end)) envelope_passes
      (passed-append (fixed_refusals f) (station_refusals f (stations_in f) ++ rest_refusals f (stations_in f).end) fixed_passes
      (passed-append (station_refusals f (stations_in f)) (rest_refusals f (stations_in f).end) station_passes rest_passes))

  -- the writer always calculates
  pub frame_checked : eqb (received_sum f) not_calculated ≡ false
  frame_checked = ne_eqb (received_sum f) not_calculated (λ z. header_calculated (header_before p x s h) (sym sum_is ∙ z))

  -- ---- the parts are those that were given
  pub frame_stations : take (stations_in f).end (variable_part f) ≡ s
  frame_stations = ap₂ take end_is variable_is ∙ take_at s h (length s) refl

  pub frame_next : (stations_in f).next.number ≡ n
  frame_next = ap (λ (r : Stations). r.next.number) stations_is ∙ number_is

  pub frame_payload : drop (offset f) (checked_part f) ≡ d
  frame_payload = ap₂ drop offset_is checked_is ∙ drop_at (header_of p x s h) d (header_length (length s) (length h)) (length-header p x s h)

  pub frame_parts : parts_in f ≡ record { protocol = p; stations = s; next = n; supplementary = h; payload = d }
  unfolding parts_in
  frame_parts =
      let a = protocol_is in
      let b = frame_stations in
      let c = frame_next in
      let e = rest_is in
      let g = frame_payload in
      λ i. record { protocol = a i; stations = b i; next = c i; supplementary = e i; payload = g i }

-- ---- the same of parts
module _ (m : Parts) (room : ℕ) (ok : Passed (encode_refusals m room)) where
  pub encode_passes : Passed (refusals (encode m))
  unfolding encode encode_refusals
  encode_passes = frame_passes m.protocol m.stations m.next m.supplementary m.payload room ok

  pub encode_checked : eqb (received_sum (encode m)) not_calculated ≡ false
  unfolding encode encode_refusals
  encode_checked = frame_checked m.protocol m.stations m.next m.supplementary m.payload room ok

  pub encode_parts : parts_in (encode m) ≡ m
  unfolding encode encode_refusals
  encode_parts = frame_parts m.protocol m.stations m.next m.supplementary m.payload room ok
