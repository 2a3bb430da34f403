-- Worked lines with the longer check (2026-07), by computation on the definition of what a line reports. Assumes nothing.
use Rattle.std.specs.Prelude.{[], ◌∷◌, ◌++◌, ◌≡◌, refl, replicate}
use Rattle.fcs.specs.Fcs.{feed_bit, feed_bits, feed}
use Rattle.framing.specs.Reports.{after_flag, at_front, segments, unskipped, onto, onto_pair, unescape, check_from, check_of, judged, reports_of_octets, reports_of_segment, reports_of_segments, reports_of}
use Rattle.qaft.specs.Escape.{is_flow_control, is_escaped}
use Rattle.qaft.specs.Limits.{sum_kind, fcs_kind}
use Rattle.qaft_report.specs.declared.Report.TheVariants.{Aborted, Long, Short, BadCheck, BadPair}
use Rattle.qaft_rules.specs.Examples.{bare}
use Rattle.qaft_rules.specs.Rules.{verdict, is_bad_pair, rules, framed}

-- 21 04 with its check sequence 7388, low octet first; and again, so that the register is ones behind a flag; the octets of the check swapped; the check not
-- complemented
pub low_octet_first : reports_of (rules 0 fcs_kind) (0x7E ∷ 0x21 ∷ 0x04 ∷ 0x88 ∷ 0x73 ∷ 0x7E ∷ 0x21 ∷ 0x04 ∷ 0x88 ∷ 0x73 ∷ 0x7E ∷ 0x21 ∷ 0x04 ∷ 0x73 ∷ 0x88 ∷ 0x7E ∷ 0x21 ∷ 0x04 ∷ 0x77 ∷ 0x8C ∷ 0x7E ∷ [])
    ≡ framed (0x21 ∷ 0x04 ∷ []) ∷ framed (0x21 ∷ 0x04 ∷ []) ∷ bare BadCheck ∷ bare BadCheck ∷ []
unfolding reports_of reports_of_segments reports_of_segment reports_of_octets judged verdict is_bad_pair is_escaped unescape onto onto_pair check_of check_from feed feed_bits feed_bit unskipped is_flow_control segments at_front after_flag
low_octet_first = refl

-- check octets that are escaped: 1B 00 has 7E 7E; at level 1 2E 82 has 7E 11, here with a raw 13 between 7D and its partner
pub check_escaped : reports_of (rules 1 fcs_kind) (0x7E ∷ 0x1B ∷ 0x00 ∷ 0x7D ∷ 0x5E ∷ 0x7D ∷ 0x5E ∷ 0x7E ∷ 0x2E ∷ 0x82 ∷ 0x7D ∷ 0x5E ∷ 0x7D ∷ 0x13 ∷ 0x31 ∷ 0x7E ∷ [])
    ≡ framed (0x1B ∷ 0x00 ∷ []) ∷ framed (0x2E ∷ 0x82 ∷ []) ∷ []
unfolding reports_of reports_of_segments reports_of_segment reports_of_octets judged verdict is_bad_pair is_escaped unescape onto onto_pair check_of check_from feed feed_bits feed_bit unskipped is_flow_control segments at_front after_flag
check_escaped = refl

-- "short is under 3": one octet, two (00 00, which are the check of no data, too), and three with a wrong check; the order of reports is as before
pub short_under_3 : reports_of (rules 0 fcs_kind) (0x7E ∷ 0x41 ∷ 0x7E ∷ 0x00 ∷ 0x00 ∷ 0x7E ∷ 0x41 ∷ 0xBF ∷ 0x00 ∷ 0x7E ∷ 0x41 ∷ 0x7D ∷ 0x7E ∷ 0x7D ∷ 0x41 ∷ 0x7E ∷ [])
    ≡ bare Short ∷ bare Short ∷ bare BadCheck ∷ bare Aborted ∷ bare BadPair ∷ []
unfolding reports_of reports_of_segments reports_of_segment reports_of_octets judged verdict is_bad_pair is_escaped unescape onto onto_pair check_of check_from feed feed_bits feed_bit unskipped is_flow_control segments at_front after_flag
short_under_3 = refl

-- "long is over 2,562"
pub long_over_2562 : reports_of (rules 0 fcs_kind) (0x7E ∷ replicate 2562 0x00 ++ (0x7E ∷ replicate 2563 0x00 ++ (0x7E ∷ []))) ≡ bare BadCheck ∷ bare Long ∷ []
unfolding reports_of reports_of_segments reports_of_segment reports_of_octets judged verdict is_bad_pair is_escaped unescape onto onto_pair check_of check_from feed feed_bits feed_bit unskipped is_flow_control segments at_front after_flag
long_over_2562 = refl

-- a frame of one check is none of the other: 41 BF, and 41 F5 A3
pub one_check_is_not_the_other : (reports_of (rules 0 fcs_kind) (0x7E ∷ 0x41 ∷ 0xBF ∷ 0x7E ∷ 0x41 ∷ 0xF5 ∷ 0xA3 ∷ 0x7E ∷ []) ≡ bare Short ∷ framed (0x41 ∷ []) ∷ [])
    × (reports_of (rules 0 sum_kind) (0x7E ∷ 0x41 ∷ 0xBF ∷ 0x7E ∷ 0x41 ∷ 0xF5 ∷ 0xA3 ∷ 0x7E ∷ []) ≡ framed (0x41 ∷ []) ∷ bare BadCheck ∷ [])
unfolding reports_of reports_of_segments reports_of_segment reports_of_octets judged verdict is_bad_pair is_escaped unescape onto onto_pair check_of check_from feed feed_bits feed_bit unskipped is_flow_control segments at_front after_flag
one_check_is_not_the_other = (refl, refl)
