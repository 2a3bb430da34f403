-- Reading an AFP frame: the first refusal in rising order, or what stands where. Cited by the reader, and by the meaning of a frame. Assumes nothing.
--
--   refusals f   30 to 40 in their order, each with the test that it is given for
--   read_of f     the reader's answer
use Rattle.std.specs.Prelude.{false, not, List, [], ◌∷◌, ◌++◌, ℕ, ◌+◌, ◌-◌, leb, ltb, eqb, length, drop}
use Rattle.common.specs.Refusals.{Refusal, guarded}
use Rattle.sums.specs.Sum.{not_calculated}
use Rattle.fcs.specs.Fcs.{check_sequence}
use Rattle.stations.specs.declared.Stations.{Stations}
use Rattle.stations.specs.Fields.{fields_at, next_offset, lacks_next}
use Rattle.supplementary.specs.Options.{valid_supplementary}
use Rattle.afp.specs.Limits.{fixed_size, max_data, version, first_reserved}
use Rattle.afp.specs.Answers.{done, bad_check, bad_version, bad_protocol, bad_stations, bad_next, bad_next_sum, bad_supplementary, bad_header_sum, bad_data}
use Rattle.afp.specs.Layout.{octet, offset, checked_part, received_check, variable_part, stations_in, received_sum, summed_part, right_header_sum, data_length, no_part}
use Rattle.afp.specs.Sizes.{length_refusals, offset_refusals}
use Rattle.afp_read.specs.declared.Reading.{Reading}

-- "frame length; check sequence"
abbrev pub check_refusals : List ℕ → List Refusal
check_refusals f = (not (eqb (received_check f) (check_sequence (checked_part f))), bad_check) ∷ []

unfoldable pub envelope_refusals : List ℕ → List Refusal
envelope_refusals f = length_refusals (length f) ++ check_refusals f

-- "version; protocol FE or FF; offset not 12 to 254 or over the frame length less 2"
unfoldable pub fixed_refusals : List ℕ → List Refusal
fixed_refusals f =
    (not (eqb (octet f 1) version), bad_version)
    ∷ (leb first_reserved (octet f 2), bad_protocol)
    ∷ offset_refusals (offset f) (length f)

-- "no ID, one against the rule, or closing 0 not before the header sum; octet 4; octet 0"; r is what the station fields hold
unfoldable pub station_refusals : List ℕ → Stations → List Refusal
station_refusals f r =
    (eqb r.end 0, bad_stations)
    ∷ (not (eqb (octet f 4) (next_offset r.next)), bad_next)
    ∷ (lacks_next r, bad_next)
    ∷ (not (eqb (octet f 0) r.next.sum), bad_next_sum)
    ∷ []

-- "supplementary header; header sum; data over 2,304"; e is the length of the station fields
unfoldable pub rest_refusals : List ℕ → ℕ → List Refusal
rest_refusals f e =
    (not (valid_supplementary (drop e (variable_part f))), bad_supplementary)
    ∷ (not (right_header_sum (received_sum f) (summed_part f)), bad_header_sum)
    ∷ (ltb max_data (data_length f), bad_data)
    ∷ []

-- "AFP reader 30 upward"
unfoldable pub refusals : List ℕ → List Refusal
refusals f = envelope_refusals f ++ (fixed_refusals f ++ (station_refusals f (stations_in f) ++ rest_refusals f (stations_in f).end))

-- "every other number in the answer is 0"
abbrev pub refused_reading : ℕ → Reading
refused_reading n =
    record { number = n; protocol = 0; stations = no_part; ids = 0; next = 0; supplementary = no_part; payload = no_part; unchecked = false }

-- what stands where in an accepted frame, r being what its station fields hold.
-- The supplementary header is with its length octet: its size is 0 where it is absent, and 1 where it is present and empty.
unfoldable pub accepted_reading : List ℕ → Stations → Reading
accepted_reading f r =
    record {
      number = done;
      protocol = octet f 2;
      stations = record { place = fields_at; size = r.end };
      ids = r.count;
      next = r.next.number;
      supplementary = record { place = fields_at + r.end; size = offset f - fixed_size - r.end };
      payload = record { place = offset f; size = data_length f };
      unchecked = eqb (received_sum f) not_calculated;
    }

unfoldable pub read_of : List ℕ → Reading
read_of f = guarded (refusals f) refused_reading (accepted_reading f (stations_in f))
