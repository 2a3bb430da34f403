-- The scope paper's listing, by computation on the definition. Assumes nothing.
use mathlib.Core.List.{[], ◌∷◌}
use mathlib.Core.Path.{◌≡◌, refl}
use Rattle.capture.specs.Whole.{before, after}
use Rattle.listing.specs.Line.{details, report_line}
use Rattle.listing_ends.specs.Ends.{heading, end_line}
use Rattle.listing_laws.specs.Listing.{text_of, lines_from, qaft_listing, kiss_listing}
use Rattle.framing.specs.Flags.{has_flag}
use Rattle.framing.specs.Reports.{after_flag, at_front, segments, unskipped, onto, onto_pair, unescape, check_from, check_of, judged, reports_of_octets, reports_of_segment, reports_of_segments, reports_of}
use Rattle.kiss.specs.Octets.{is_bad_escape, stands_for, port_of, command_of, is_data}
use Rattle.kiss_rules.specs.Rules as kiss
use Rattle.qaft.specs.Escape.{is_flow_control, is_escaped}
use Rattle.qaft_rules.specs.Rules.{verdict, is_bad_pair}
use Rattle.text.specs.Text.{ascii, decimal_onto, decimal, hex}

-- "For AA 7E 40 41 7F 7E 10 7D 7E 7E 05 7E 33 it prints"
pub paper_listing : qaft_listing 0 (0xAA ∷ 0x7E ∷ 0x40 ∷ 0x41 ∷ 0x7F ∷ 0x7E ∷ 0x10 ∷ 0x7D ∷ 0x7E ∷ 0x7E ∷ 0x05 ∷ 0x7E ∷ 0x33 ∷ [])
    ≡ ascii "QAFT listing level 0\n1 frame 2 4041\n2 aborted\n3 short\nend 3 before 1 after 1\n"
unfolding qaft_listing lines_from text_of heading report_line details end_line decimal decimal_onto hex before after has_flag reports_of reports_of_segments reports_of_segment reports_of_octets judged verdict is_bad_pair is_escaped unescape onto onto_pair check_of check_from unskipped is_flow_control segments at_front after_flag
paper_listing = refl

-- "With no flag, all octets are before"; a bad check and capitals; nothing at all
pub no_flag : qaft_listing 1 (0x41 ∷ 0xBF ∷ []) ≡ ascii "QAFT listing level 1\nend 0 before 2 after 0\n"
unfolding qaft_listing lines_from text_of heading report_line details end_line decimal decimal_onto hex before after has_flag reports_of reports_of_segments reports_of_segment reports_of_octets judged verdict is_bad_pair is_escaped unescape onto onto_pair check_of check_from unskipped is_flow_control segments at_front after_flag
no_flag = refl

pub bad_and_capitals : qaft_listing 0 (0x7E ∷ 0x41 ∷ 0x41 ∷ 0x7E ∷ 0xAB ∷ 0x55 ∷ 0x7E ∷ []) ≡ ascii "QAFT listing level 0\n1 bad\n2 frame 1 AB\nend 2 before 0 after 0\n"
unfolding qaft_listing lines_from text_of heading report_line details end_line decimal decimal_onto hex before after has_flag reports_of reports_of_segments reports_of_segment reports_of_octets judged verdict is_bad_pair is_escaped unescape onto onto_pair check_of check_from unskipped is_flow_control segments at_front after_flag
bad_and_capitals = refl

-- flow control at level 1: put into the frame of 11, also behind its 7D; a segment of nothing else gives no line; before and after count it
pub flow_control_listing : qaft_listing 1 (0x11 ∷ 0x7E ∷ 0x7D ∷ 0x13 ∷ 0x31 ∷ 0x11 ∷ 0xEF ∷ 0x7E ∷ 0x13 ∷ 0x7E ∷ 0x11 ∷ []) ≡ ascii "QAFT listing level 1\n1 frame 1 11\nend 1 before 1 after 1\n"
unfolding qaft_listing lines_from text_of heading report_line details end_line decimal decimal_onto hex before after has_flag reports_of reports_of_segments reports_of_segment reports_of_octets judged verdict is_bad_pair is_escaped unescape onto onto_pair check_of check_from unskipped is_flow_control segments at_front after_flag
flow_control_listing = refl

-- the splitter box's 7D 41, and 7D 33 at each level
pub pair_listing : qaft_listing 0 (0x7E ∷ 0x7D ∷ 0x41 ∷ 0x9F ∷ 0x7E ∷ 0x7D ∷ 0x33 ∷ 0xED ∷ 0x7E ∷ []) ≡ ascii "QAFT listing level 0\n1 pair\n2 pair\nend 2 before 0 after 0\n"
unfolding qaft_listing lines_from text_of heading report_line details end_line decimal decimal_onto hex before after has_flag reports_of reports_of_segments reports_of_segment reports_of_octets judged verdict is_bad_pair is_escaped unescape onto onto_pair check_of check_from unskipped is_flow_control segments at_front after_flag
pair_listing = refl

pub pair_listing_level_1 : qaft_listing 1 (0x7E ∷ 0x7D ∷ 0x41 ∷ 0x9F ∷ 0x7E ∷ 0x7D ∷ 0x33 ∷ 0xED ∷ 0x7E ∷ []) ≡ ascii "QAFT listing level 1\n1 pair\n2 frame 1 13\nend 2 before 0 after 0\n"
unfolding qaft_listing lines_from text_of heading report_line details end_line decimal decimal_onto hex before after has_flag reports_of reports_of_segments reports_of_segment reports_of_octets judged verdict is_bad_pair is_escaped unescape onto onto_pair check_of check_from unskipped is_flow_control segments at_front after_flag
pair_listing_level_1 = refl

-- a modem's line: frames of port 0, a frame of another port, a bad escape, a type octet alone; octets before and after the flags
pub modem_listing : kiss_listing (0x41 ∷ 0xC0 ∷ 0x00 ∷ 0xDB ∷ 0xDC ∷ 0x42 ∷ 0xC0 ∷ 0xC0 ∷ 0x10 ∷ 0x42 ∷ 0xC0 ∷ 0x00 ∷ 0xDB ∷ 0xC0 ∷ 0x00 ∷ 0xC0 ∷ 0x33 ∷ [])
    ≡ ascii "KISS listing\n1 frame 2 C042\n2 skipped\n3 escape\n4 short\nend 4 before 1 after 1\n"
unfolding kiss_listing lines_from text_of heading report_line details end_line decimal decimal_onto hex before after has_flag reports_of reports_of_segments reports_of_segment reports_of_octets judged kiss.verdict is_bad_escape stands_for port_of command_of is_data unescape onto onto_pair check_of check_from unskipped segments at_front after_flag
modem_listing = refl
