-- The paper's worked header, and a relayed frame, by computation on the definitions that the contracts cite. Assumes nothing.
use mathlib.Core.Path.{◌≡◌, refl}
use mathlib.Core.Bool.{false}
use mathlib.Core.List.{List, [], ◌∷◌}
use mathlib.Core.Option.{none, some}
use Prim.Native.Nat.{ℕ}
use Rattle.fcs.specs.Fcs.{feed_bit, feed_bits, feed, feed_all, check_sequence}
use Rattle.ids.specs.Id.{valid_id, valid_suffix, callsign_length, all_graphic, is_callsign, is_graphic}
use Rattle.sums.specs.Sum.{sum_from, next_station_sum, header_sum}
use Rattle.stations.specs.Fields.{stations_of, stations_from, next_after, closed_at, next_offset, lacks_next}
use Rattle.stations.specs.IdList.{ids_from}
use Rattle.supplementary.specs.Options.{valid_supplementary, valid_options, callsigns_after, supplementary_in}
use Rattle.afp.specs.Layout.{variable_part, stations_in, right_header_sum}
use Rattle.afp_read.specs.Read.{envelope_refusals, fixed_refusals, station_refusals, rest_refusals, refusals}
use Rattle.afp_read.specs.Meaning.{Meaning, means, meant, meaning}
use Rattle.afp_write.specs.Frame.{frame_of, header_before, header_of, with_check}
use Rattle.afp_receiver.specs.Receiver.{receiver_of}
use Rattle.afp_laws.specs.Parts.{Parts, encode}
use Rattle.afp_laws.specs.Receivers.{everybody, station, shown_by}
use Rattle.afp_laws.proofs.Receivers.{same_receiver}

-- "header of a broadcast by AB1C, protocol F0": with no data its check octets are 85 DA
abbrev source : List ℕ
source = 0x41 ∷ 0x42 ∷ 0x31 ∷ 0x43 ∷ []

abbrev broadcast : Parts
broadcast = record { protocol = 0xF0; stations = 4 ∷ 0x41 ∷ 0x42 ∷ 0x31 ∷ 0x43 ∷ 0 ∷ []; next = 0; supplementary = []; payload = [] }

abbrev broadcast_frame : List ℕ
broadcast_frame = 0xFF ∷ 0x01 ∷ 0xF0 ∷ 0x0C ∷ 0x00 ∷ 0x04 ∷ 0x41 ∷ 0x42 ∷ 0x31 ∷ 0x43 ∷ 0x00 ∷ 0xF9 ∷ 0x85 ∷ 0xDA ∷ []

pub broadcast_written : encode broadcast ≡ broadcast_frame
unfolding encode frame_of with_check header_of header_before header_sum next_offset next_station_sum sum_from stations_of stations_from next_after closed_at valid_id valid_suffix callsign_length all_graphic is_callsign is_graphic check_sequence feed_all feed feed_bits feed_bit
broadcast_written = refl

abbrev broadcast_meaning : Meaning
broadcast_meaning = record { protocol = 0xF0; ids = source ∷ []; next = 0; supplementary = none; payload = [] }

pub broadcast_means : meaning broadcast_frame ≡ means (record { protocol = 0xF0; ids = source ∷ []; next = 0; supplementary = none; payload = [] }) false
unfolding meaning meant refusals envelope_refusals fixed_refusals station_refusals rest_refusals stations_in variable_part lacks_next right_header_sum header_sum next_offset next_station_sum sum_from stations_of stations_from next_after closed_at ids_from valid_id valid_suffix callsign_length all_graphic is_callsign is_graphic valid_supplementary valid_options callsigns_after supplementary_in check_sequence feed_all feed feed_bits feed_bit
broadcast_means = refl

-- AB1C to A/2-x, an empty supplementary header, two octets of data: written and read
abbrev relayed : Parts
relayed =
    record {
      protocol = 0x01;
      stations = 4 ∷ 0x41 ∷ 0x42 ∷ 0x31 ∷ 0x43 ∷ 5 ∷ 0x41 ∷ 0x2F ∷ 0x32 ∷ 0x2D ∷ 0x78 ∷ 0 ∷ [];
      next = 2;
      supplementary = 0 ∷ [];
      payload = 0x7E ∷ 0x00 ∷ [];
    }

abbrev relayed_meaning : Meaning
relayed_meaning =
    record { protocol = 0x01; ids = source ∷ (0x41 ∷ 0x2F ∷ 0x32 ∷ 0x2D ∷ 0x78 ∷ []) ∷ []; next = 2; supplementary = some []; payload = 0x7E ∷ 0x00 ∷ [] }

pub relayed_means : meaning (encode relayed)
    ≡ means (record { protocol = 0x01; ids = source ∷ (0x41 ∷ 0x2F ∷ 0x32 ∷ 0x2D ∷ 0x78 ∷ []) ∷ []; next = 2; supplementary = some []; payload = 0x7E ∷ 0x00 ∷ [] }) false
unfolding encode frame_of with_check header_of header_before meaning meant refusals envelope_refusals fixed_refusals station_refusals rest_refusals stations_in variable_part lacks_next right_header_sum header_sum next_offset next_station_sum sum_from stations_of stations_from next_after closed_at ids_from valid_id valid_suffix callsign_length all_graphic is_callsign is_graphic valid_supplementary valid_options callsigns_after supplementary_in check_sequence feed_all feed feed_bits feed_bit
relayed_means = refl

-- and who the two are for next
pub broadcast_named : shown_by (receiver_of broadcast_frame) broadcast_frame ≡ everybody
broadcast_named = same_receiver broadcast_frame broadcast_meaning false broadcast_means

pub relayed_named : shown_by (receiver_of (encode relayed)) (encode relayed) ≡ station (5 ∷ 0x41 ∷ 0x2F ∷ 0x32 ∷ 0x2D ∷ 0x78 ∷ [])
relayed_named = same_receiver (encode relayed) relayed_meaning false relayed_means
