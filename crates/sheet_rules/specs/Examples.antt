-- Worked captures, by computation on the definition of what a capture adds. Assumes nothing.
use Rattle.std.specs.Prelude.{ℕ, List, [], ◌∷◌, ◌++◌, ◌≡◌, refl, replicate}
use Rattle.capture.specs.Whole.{before, flags, after}
use Rattle.framing.specs.Flags.{has_flag}
use Rattle.framing.specs.Reports.{after_flag, at_front, segments, unskipped, onto, onto_pair, unescape, check_from, check_of, judged, reports_of_octets, reports_of_segment, reports_of_segments, reports_of}
use Rattle.qaft.specs.Escape.{is_flow_control, is_escaped}
use Rattle.qaft_rules.specs.Rules.{verdict, is_bad_pair}
use Rattle.sheet_rules.specs.Counts.{octets_reported, skipped_of, octets_skipped, count_of, last_from, repeats_after, counts_of}

-- the counts as they are printed: five of octets, six of reports, three of packets
abbrev counts : (b f i a skipped : ℕ) (frames aborted long short bad pairs : ℕ) (data' dack repeats : ℕ) → List ℕ
counts b f i a skipped frames aborted long short bad pairs data' dack repeats =
    b ∷ f ∷ i ∷ a ∷ skipped ∷ frames ∷ aborted ∷ long ∷ short ∷ bad ∷ pairs ∷ data' ∷ dack ∷ repeats ∷ []

-- the scope paper's capture: AA before the first flag, a DATA, 10 7D, an empty segment, 05, and 33 after the last flag
pub paper_capture : counts_of 0 (0xAA ∷ 0x7E ∷ 0x40 ∷ 0x41 ∷ 0x7F ∷ 0x7E ∷ 0x10 ∷ 0x7D ∷ 0x7E ∷ 0x7E ∷ 0x05 ∷ 0x7E ∷ 0x33 ∷ []) ≡ counts 1 5 6 1 0 1 1 0 1 0 0 1 0 0
unfolding counts_of count_of repeats_after last_from octets_reported octets_skipped skipped_of before flags after has_flag reports_of reports_of_segments reports_of_segment reports_of_octets judged verdict is_bad_pair is_escaped unescape onto onto_pair check_of check_from unskipped is_flow_control segments at_front after_flag
paper_capture = refl

-- "with no flag all octets are before"; with one flag there are octets before and after, and none in segments
pub no_flag : counts_of 1 (0x41 ∷ 0xBF ∷ []) ≡ counts 2 0 0 0 0 0 0 0 0 0 0 0 0 0
unfolding counts_of count_of repeats_after last_from octets_reported octets_skipped skipped_of before flags after has_flag reports_of reports_of_segments reports_of_segment reports_of_octets judged verdict is_bad_pair is_escaped unescape onto onto_pair check_of check_from unskipped is_flow_control segments at_front after_flag
no_flag = refl

pub one_flag : counts_of 0 (0x41 ∷ 0x7E ∷ 0x42 ∷ 0x43 ∷ []) ≡ counts 1 1 0 2 0 0 0 0 0 0 0 0 0 0
unfolding counts_of count_of repeats_after last_from octets_reported octets_skipped skipped_of before flags after has_flag reports_of reports_of_segments reports_of_segment reports_of_octets judged verdict is_bad_pair is_escaped unescape onto onto_pair check_of check_from unskipped is_flow_control segments at_front after_flag
one_flag = refl

-- DATA 0, a bad check, a DACK, a RESET, DATA 0 again: a repeat, whatever was reported between; DATA 1, DATA 0: none
pub repeat_behind_others : counts_of 0 (0x7E ∷ 0x40 ∷ 0xC0 ∷ 0x7E ∷ 0x41 ∷ 0x41 ∷ 0x7E ∷ 0x50 ∷ 0xB0 ∷ 0x7E ∷ 0x10 ∷ 0xF0 ∷ 0x7E ∷ 0x40 ∷ 0xC0 ∷ 0x7E ∷ 0x41 ∷ 0xBF ∷ 0x7E ∷ 0x40 ∷ 0xC0 ∷ 0x7E ∷ [])
    ≡ counts 0 8 14 0 0 6 0 0 0 1 0 4 1 1
unfolding counts_of count_of repeats_after last_from octets_reported octets_skipped skipped_of before flags after has_flag reports_of reports_of_segments reports_of_segment reports_of_octets judged verdict is_bad_pair is_escaped unescape onto onto_pair check_of check_from unskipped is_flow_control segments at_front after_flag
repeat_behind_others = refl

-- a timer that sends DATA 0 and DATA 1 again: no number equals that of the DATA before it
pub sent_again : counts_of 0 (0x7E ∷ 0x40 ∷ 0xC0 ∷ 0x7E ∷ 0x41 ∷ 0xBF ∷ 0x7E ∷ 0x40 ∷ 0xC0 ∷ 0x7E ∷ 0x41 ∷ 0xBF ∷ 0x7E ∷ []) ≡ counts 0 5 8 0 0 4 0 0 0 0 0 4 0 0
unfolding counts_of count_of repeats_after last_from octets_reported octets_skipped skipped_of before flags after has_flag reports_of reports_of_segments reports_of_segment reports_of_octets judged verdict is_bad_pair is_escaped unescape onto onto_pair check_of check_from unskipped is_flow_control segments at_front after_flag
sent_again = refl

-- octets are counted as they stand on the line, 7D 5E as two; 50 41 is a frame, and no DACK
pub raw_octets : counts_of 0 (0x7E ∷ 0x7D ∷ 0x5E ∷ 0x82 ∷ 0x7E ∷ 0x50 ∷ 0x41 ∷ 0x6F ∷ 0x7E ∷ []) ≡ counts 0 3 6 0 0 2 0 0 0 0 0 0 0 0
unfolding counts_of count_of repeats_after last_from octets_reported octets_skipped skipped_of before flags after has_flag reports_of reports_of_segments reports_of_segment reports_of_octets judged verdict is_bad_pair is_escaped unescape onto onto_pair check_of check_from unskipped is_flow_control segments at_front after_flag
raw_octets = refl

-- a frame of 258 octets that begins with 40 is no packet: neither DATA nor "the DATA before"
pub long_payload : counts_of 0 (0x7E ∷ 0x41 ∷ 0xBF ∷ 0x7E ∷ 0x40 ∷ (replicate 257 0x00 ++ (0xC0 ∷ 0x7E ∷ 0x41 ∷ 0xBF ∷ 0x7E ∷ []))) ≡ counts 0 4 263 0 0 3 0 0 0 0 0 2 0 1
unfolding counts_of count_of repeats_after last_from octets_reported octets_skipped skipped_of before flags after has_flag reports_of reports_of_segments reports_of_segment reports_of_octets judged verdict is_bad_pair is_escaped unescape onto onto_pair check_of check_from unskipped is_flow_control segments at_front after_flag
long_payload = refl

-- flow control before the first flag, in a DATA with 13 for its payload (also between 7D and its partner), alone in a segment, behind a 7D, and after
-- the last flag: at level 1 it is skipped, and five such octets stand between two flags
abbrev flow_controlled : List ℕ
flow_controlled = 0x11 ∷ 0x41 ∷ 0x7E ∷ 0x13 ∷ 0x40 ∷ 0x7D ∷ 0x11 ∷ 0x33 ∷ 0xAD ∷ 0x7E ∷ 0x11 ∷ 0x13 ∷ 0x7E ∷ 0x7D ∷ 0x13 ∷ 0x7E ∷ 0x05 ∷ 0x13 ∷ []

pub flow_control_skipped : counts_of 1 flow_controlled ≡ counts 2 4 5 2 5 1 1 0 0 0 0 1 0 0
unfolding counts_of count_of repeats_after last_from octets_reported octets_skipped skipped_of before flags after has_flag reports_of reports_of_segments reports_of_segment reports_of_octets judged verdict is_bad_pair is_escaped unescape onto onto_pair check_of check_from unskipped is_flow_control segments at_front after_flag
flow_control_skipped = refl

-- at level 0 it is data: a bad check, and 7D 11 and 7D 13 are bad pairs
pub flow_control_counted : counts_of 0 flow_controlled ≡ counts 2 4 10 2 0 0 0 0 0 1 2 0 0 0
unfolding counts_of count_of repeats_after last_from octets_reported octets_skipped skipped_of before flags after has_flag reports_of reports_of_segments reports_of_segment reports_of_octets judged verdict is_bad_pair is_escaped unescape onto onto_pair check_of check_from unskipped is_flow_control segments at_front after_flag
flow_control_counted = refl

-- DATA 0 with the payload 61 written as 7D 41 is a bad pair, and no DATA: the DATA 0 behind it repeats the one before it
pub pair_is_no_packet : counts_of 0 (0x7E ∷ 0x40 ∷ 0xC0 ∷ 0x7E ∷ 0x40 ∷ 0x7D ∷ 0x41 ∷ 0x5F ∷ 0x7E ∷ 0x40 ∷ 0xC0 ∷ 0x7E ∷ []) ≡ counts 0 4 8 0 0 2 0 0 0 0 1 2 0 1
unfolding counts_of count_of repeats_after last_from octets_reported octets_skipped skipped_of before flags after has_flag reports_of reports_of_segments reports_of_segment reports_of_octets judged verdict is_bad_pair is_escaped unescape onto onto_pair check_of check_from unskipped is_flow_control segments at_front after_flag
pair_is_no_packet = refl
