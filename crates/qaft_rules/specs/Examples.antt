-- Worked lines, by computation on the definition of what a line reports. Assumes nothing.
use Rattle.std.specs.Prelude.{[], ◌∷◌, ◌++◌, ◌≡◌, refl, replicate}
use Rattle.framing.specs.Reports.{Reported, after_flag, at_front, segments, unskipped, onto, onto_pair, unescape, check_from, check_of, judged, reports_of_octets, reports_of_segment, reports_of_segments, reports_of}
use Rattle.qaft.specs.Escape.{is_flow_control, is_escaped}
use Rattle.qaft.specs.Limits.{sum_kind}
use Rattle.qaft_rules.specs.Rules.{verdict, is_bad_pair, rules, framed}
use Rattle.qaft_report.specs.declared.Report.{Report}
use Rattle.qaft_report.specs.declared.Report.TheVariants.{Aborted, Long, Short, BadCheck, BadPair}

-- a report that shows no data
abbrev pub bare : Report → Reported Report
bare p = record { report = p; octets = [] }

-- AA before the flag; 10 7D; nothing; 00; 41 BE; 7D 5E 82; 33 not closed
pub segments_report : reports_of (rules 0 sum_kind) (0xAA ∷ 0x7E ∷ 0x10 ∷ 0x7D ∷ 0x7E ∷ 0x7E ∷ 0x00 ∷ 0x7E ∷ 0x41 ∷ 0xBE ∷ 0x7E ∷ 0x7D ∷ 0x5E ∷ 0x82 ∷ 0x7E ∷ 0x33 ∷ [])
    ≡ bare Aborted ∷ bare Short ∷ bare BadCheck ∷ framed (0x7E ∷ []) ∷ []
unfolding reports_of reports_of_segments reports_of_segment reports_of_octets judged verdict is_bad_pair is_escaped unescape onto onto_pair check_of check_from unskipped is_flow_control segments at_front after_flag
segments_report = refl

-- 7D 5D stands for 7D; a lone 7D is aborted
pub escaped_escape_lem : reports_of (rules 0 sum_kind) (0x7E ∷ 0x7D ∷ 0x5D ∷ 0x83 ∷ 0x7E ∷ 0x7D ∷ 0x7E ∷ []) ≡ framed (0x7D ∷ []) ∷ bare Aborted ∷ []
unfolding reports_of reports_of_segments reports_of_segment reports_of_octets judged verdict is_bad_pair is_escaped unescape onto onto_pair check_of check_from unskipped is_flow_control segments at_front after_flag
escaped_escape_lem = refl

-- a raw 11 is data at level 0: a frame, and a segment of one octet
pub flow_control_is_data : reports_of (rules 0 sum_kind) (0x7E ∷ 0x11 ∷ 0xEF ∷ 0x7E ∷ 0x13 ∷ 0x7E ∷ []) ≡ framed (0x11 ∷ []) ∷ bare Short ∷ []
unfolding reports_of reports_of_segments reports_of_segment reports_of_octets judged verdict is_bad_pair is_escaped unescape onto onto_pair check_of check_from unskipped is_flow_control segments at_front after_flag
flow_control_is_data = refl

-- at level 1 it is flow control: the same octets are a segment of EF alone, and an empty one
pub flow_control_is_skipped : reports_of (rules 1 sum_kind) (0x7E ∷ 0x11 ∷ 0xEF ∷ 0x7E ∷ 0x13 ∷ 0x7E ∷ []) ≡ bare Short ∷ []
unfolding reports_of reports_of_segments reports_of_segment reports_of_octets judged verdict is_bad_pair is_escaped unescape onto onto_pair check_of check_from unskipped is_flow_control segments at_front after_flag
flow_control_is_skipped = refl

-- before the first flag, among data, and between 7D and its partner: the frame of 41 and 11 all the same; 12 is data
pub flow_control_anywhere : reports_of (rules 1 sum_kind) (0x13 ∷ 0x7E ∷ 0x41 ∷ 0x13 ∷ 0x7D ∷ 0x11 ∷ 0x13 ∷ 0x31 ∷ 0xAE ∷ 0x11 ∷ 0x7E ∷ 0x12 ∷ 0xEE ∷ 0x7E ∷ []) ≡ framed (0x41 ∷ 0x11 ∷ []) ∷ framed (0x12 ∷ []) ∷ []
unfolding reports_of reports_of_segments reports_of_segment reports_of_octets judged verdict is_bad_pair is_escaped unescape onto onto_pair check_of check_from unskipped is_flow_control segments at_front after_flag
flow_control_anywhere = refl

-- 7D 11 7E is a 7D without its partner: aborted
pub escape_waits_on : reports_of (rules 1 sum_kind) (0x7E ∷ 0x7D ∷ 0x11 ∷ 0x7E ∷ []) ≡ bare Aborted ∷ []
unfolding reports_of reports_of_segments reports_of_segment reports_of_octets judged verdict is_bad_pair is_escaped unescape onto onto_pair check_of check_from unskipped is_flow_control segments at_front after_flag
escape_waits_on = refl

pub no_flag : reports_of (rules 0 sum_kind) (0x41 ∷ 0xBF ∷ []) ≡ []
unfolding reports_of reports_of_segments reports_of_segment reports_of_octets judged verdict is_bad_pair is_escaped unescape onto onto_pair check_of check_from unskipped is_flow_control segments at_front after_flag
no_flag = refl

-- 2,562 octets after undoing escapes
pub too_long : reports_of (rules 0 sum_kind) (0x7E ∷ replicate 2562 0x00 ++ (0x7E ∷ [])) ≡ bare Long ∷ []
unfolding reports_of reports_of_segments reports_of_segment reports_of_octets judged verdict is_bad_pair is_escaped unescape onto onto_pair check_of check_from unskipped is_flow_control segments at_front after_flag
too_long = refl

-- ---- bad pairs
-- 7D 41 stands for 61, which no level escapes, and 7D 7D for 5D: both were frames before 2026-04
pub odd_pairs : reports_of (rules 1 sum_kind) (0x7E ∷ 0x7D ∷ 0x41 ∷ 0x9F ∷ 0x7E ∷ 0x7D ∷ 0x7D ∷ 0xA3 ∷ 0x7E ∷ []) ≡ bare BadPair ∷ bare BadPair ∷ []
unfolding reports_of reports_of_segments reports_of_segment reports_of_octets judged verdict is_bad_pair is_escaped unescape onto onto_pair check_of check_from unskipped is_flow_control segments at_front after_flag
odd_pairs = refl

-- 7D 31 and 7D 33 are bad at level 0 and good at level 1, where a skipped 11 or 13 behind the 7D is not judged
pub flow_control_pairs_at_0 : reports_of (rules 0 sum_kind) (0x7E ∷ 0x7D ∷ 0x31 ∷ 0xEF ∷ 0x7E ∷ 0x7D ∷ 0x33 ∷ 0xED ∷ 0x7E ∷ []) ≡ bare BadPair ∷ bare BadPair ∷ []
unfolding reports_of reports_of_segments reports_of_segment reports_of_octets judged verdict is_bad_pair is_escaped unescape onto onto_pair check_of check_from unskipped is_flow_control segments at_front after_flag
flow_control_pairs_at_0 = refl

pub flow_control_pairs_at_1 : reports_of (rules 1 sum_kind) (0x7E ∷ 0x7D ∷ 0x31 ∷ 0xEF ∷ 0x7E ∷ 0x7D ∷ 0x11 ∷ 0x33 ∷ 0xED ∷ 0x7E ∷ []) ≡ framed (0x11 ∷ []) ∷ framed (0x13 ∷ []) ∷ []
unfolding reports_of reports_of_segments reports_of_segment reports_of_octets judged verdict is_bad_pair is_escaped unescape onto onto_pair check_of check_from unskipped is_flow_control segments at_front after_flag
flow_control_pairs_at_1 = refl

-- "judged after aborted and before long": 7D 41 and a 7D left over; 7D 41 alone, which would be short; 7D 41 with a bad check; then a good frame, and the
-- mark is gone
pub pair_order : reports_of (rules 0 sum_kind) (0x7E ∷ 0x7D ∷ 0x41 ∷ 0x7D ∷ 0x7E ∷ 0x7D ∷ 0x41 ∷ 0x7E ∷ 0x7D ∷ 0x41 ∷ 0x00 ∷ 0x7E ∷ 0x41 ∷ 0xBF ∷ 0x7E ∷ [])
    ≡ bare Aborted ∷ bare BadPair ∷ bare BadPair ∷ framed (0x41 ∷ []) ∷ []
unfolding reports_of reports_of_segments reports_of_segment reports_of_octets judged verdict is_bad_pair is_escaped unescape onto onto_pair check_of check_from unskipped is_flow_control segments at_front after_flag
pair_order = refl

-- a bad pair behind 2,561 octets, where nothing is stored any more
pub pair_beyond : reports_of (rules 0 sum_kind) (0x7E ∷ replicate 2561 0x00 ++ (0x7D ∷ 0x41 ∷ 0x7E ∷ [])) ≡ bare BadPair ∷ []
unfolding reports_of reports_of_segments reports_of_segment reports_of_octets judged verdict is_bad_pair is_escaped unescape onto onto_pair check_of check_from unskipped is_flow_control segments at_front after_flag
pair_beyond = refl
