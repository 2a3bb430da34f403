-- Worked lines, by computation on the definition of what a line reports. Assumes nothing.
use Rattle.std.specs.Prelude.{[], ◌∷◌, ◌++◌, ◌≡◌, refl, replicate}
use Rattle.framing.specs.Reports.{Reported, after_flag, at_front, segments, unskipped, onto, onto_pair, unescape, check_from, check_of, judged, reports_of_octets, reports_of_segment, reports_of_segments, reports_of}
use Rattle.kiss.specs.Octets.{stands_for, is_bad_escape, port_of, command_of, is_data}
use Rattle.kiss_report.specs.declared.Report.{Report}
use Rattle.kiss_report.specs.declared.Report.TheVariants.{BadEscape, Short, Long, Skipped}
use Rattle.kiss_rules.specs.Rules.{verdict, rules, framed}

-- a report that shows no payload
abbrev bare : Report → Reported Report
bare p = record { report = p; octets = [] }

-- the examples of TAPR's specification: TEST to port 0, Hello to port 5, C0 DB to port 0
pub tapr : reports_of rules (0xC0 ∷ 0x00 ∷ 0x54 ∷ 0x45 ∷ 0x53 ∷ 0x54 ∷ 0xC0 ∷ 0x50 ∷ 0x48 ∷ 0x65 ∷ 0x6C ∷ 0x6C ∷ 0x6F ∷ 0xC0 ∷ 0x00 ∷ 0xDB ∷ 0xDC ∷ 0xDB ∷ 0xDD ∷ 0xC0 ∷ [])
    ≡ framed (0x54 ∷ 0x45 ∷ 0x53 ∷ 0x54 ∷ []) ∷ bare Skipped ∷ framed (0xC0 ∷ 0xDB ∷ []) ∷ []
unfolding reports_of reports_of_segments reports_of_segment reports_of_octets judged verdict unescape onto onto_pair check_of check_from unskipped segments at_front after_flag stands_for is_bad_escape port_of command_of is_data
tapr = refl

-- AA before the flag; DB; nothing; 00; 00 DB 41; 00 DB DB DC, in which the second DB opens no new escape; 10 alone; DB DC 41 has type C0; 33 not closed
pub segments_report : reports_of rules (0xAA ∷ 0xC0 ∷ 0xDB ∷ 0xC0 ∷ 0xC0 ∷ 0x00 ∷ 0xC0 ∷ 0x00 ∷ 0xDB ∷ 0x41 ∷ 0xC0 ∷ 0x00 ∷ 0xDB ∷ 0xDB ∷ 0xDC ∷ 0xC0 ∷ 0x10 ∷ 0xC0 ∷ 0xDB ∷ 0xDC ∷ 0x41 ∷ 0xC0 ∷ 0x33 ∷ [])
    ≡ bare BadEscape ∷ bare Short ∷ bare BadEscape ∷ bare BadEscape ∷ bare Short ∷ bare Skipped ∷ []
unfolding reports_of reports_of_segments reports_of_segment reports_of_octets judged verdict unescape onto onto_pair check_of check_from unskipped segments at_front after_flag stands_for is_bad_escape port_of command_of is_data
segments_report = refl

-- 2,561 octets of payload after undoing escapes, for another port: long, not skipped
pub too_long : reports_of rules (0xC0 ∷ 0x10 ∷ replicate 2561 0x00 ++ (0xC0 ∷ [])) ≡ bare Long ∷ []
unfolding reports_of reports_of_segments reports_of_segment reports_of_octets judged verdict unescape onto onto_pair check_of check_from unskipped segments at_front after_flag stands_for is_bad_escape port_of command_of is_data
too_long = refl
