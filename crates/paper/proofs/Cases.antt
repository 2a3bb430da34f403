-- Document 01's [P] cases, and 2026-07's, hold: each row computes. Assumes nothing.
use mathlib.Core.Path.{refl}
use Rattle.framing.specs.Reports.{after_flag, at_front, segments, unskipped, onto, onto_pair, unescape, check_from, check_of, judged, reports_of_octets, reports_of_segment, reports_of_segments, reports_of}
use Rattle.framing.specs.Step.{joined, awaiting, stored_into, in_segment_into, closed_into, step_into}
use Rattle.framing.specs.Writing.{escaped_one, escaped}
use Rattle.framing.specs.Writing as framing
use Rattle.octets.specs.Sum.{sum}
use Rattle.qaft.specs.Escape.{is_flow_control, is_escaped}
use Rattle.qaft.specs.Check.{check_octet}
use Rattle.qaft.specs.Frame.{frame}
use Rattle.qaft_rules.specs.Rules.{verdict, is_bad_pair}
use Rattle.line.specs.Scan.{after, scan_on, scan}
use Rattle.qaft_read.specs.State.{malformed}
use Rattle.qaft_read.specs.Step.{action}
use Rattle.qaft_read.specs.Read.{outcome_of, call_of, scan_call, refusals, read}
use Rattle.dlc_table.specs.Events.{arrival_of}
use Rattle.fcs.specs.Fcs.{feed_bit, feed_bits, feed, feed_all, check_sequence}
use Rattle.ids.specs.Id.{valid_id, valid_suffix, callsign_length, all_graphic, is_callsign, is_graphic}
use Rattle.sums.specs.Sum.{sum_from, next_station_sum, header_sum}
use Rattle.stations.specs.Fields.{stations_of, stations_from, next_after, closed_at, next_offset}
use Rattle.afp_write.specs.Frame.{frame_of, header_before, header_of, with_check}
use Rattle.paper.specs.Table.{reversed, Each, table}

pub cases : Each table
unfolding table reversed read refusals scan_call call_of outcome_of scan scan_on after action malformed step_into closed_into in_segment_into stored_into awaiting joined verdict is_bad_pair frame framing.frame escaped escaped_one is_escaped is_flow_control check_octet sum reports_of reports_of_segments reports_of_segment reports_of_octets judged unescape onto onto_pair check_of check_from unskipped segments at_front after_flag arrival_of sum_from frame_of with_check header_of header_before header_sum next_offset next_station_sum stations_of stations_from next_after closed_at valid_id valid_suffix callsign_length all_graphic is_callsign is_graphic check_sequence feed_all feed feed_bits feed_bit
cases = ((refl, (refl, refl)), ((refl, (refl, refl)), ((refl, (refl, refl)), ((refl, (refl, refl)), ((refl, (refl, refl)), ((refl, (refl, refl)), ((refl, (refl, refl)), ((refl, (refl, refl)), ((refl, (refl, refl)), ((refl, (refl, refl)), (refl, (refl, (refl, (refl, ((refl, (refl, refl), refl), tt)))))))))))))))
