-- What a listing calls the reports of a capture, and how it reads it, by its framing. Cited by the contracts. Assumes nothing.
--
--   source_rules kiss level   the rules by which the capture is read, with a report's entry for a report
--   line_of kiss k p m        the line of a report whose octets stand in the buffer m, behind k others
use Rattle.std.specs.Prelude.{ℕ, Bool, cond, List}
use Rattle.counter.specs.Counted.{next}
use Rattle.deframer.specs.Scan.{view}
use Rattle.deframer.specs.declared.Rule.{Rule}
use Rattle.deframer.specs.declared.State.{State}
use Rattle.framing.specs.Closing.{verdict_on}
use Rattle.framing.specs.Reports.{shown}
use Rattle.framing.specs.Rules.{Rules}
use Rattle.framing.specs.Told.{told}
use Rattle.kiss.specs.Limits.{type_size}
use Rattle.kiss.specs.Octets as kiss_octets
use Rattle.kiss_read.specs.Scanned as kiss_reader
use Rattle.kiss_report.specs.declared.Report as kiss_reports
use Rattle.kiss_report.specs.declared.Report.TheVariants as kiss_report
use Rattle.kiss_rules.specs.Rules as kiss_rules
use Rattle.listing.specs.Line.{report_line}
use Rattle.listing.specs.declared.Entry.{Entry}
use Rattle.listing.specs.declared.Entry.TheVariants.{Frame, Aborted, Long, Short, BadCheck, BadPair, BadEscape, Skipped}
use Rattle.qaft.specs.Escape as qaft_escape
use Rattle.qaft.specs.Limits.{sum_kind}
use Rattle.qaft_read.specs.Scanned as qaft_reader
use Rattle.qaft_report.specs.declared.Report as qaft_reports
use Rattle.qaft_report.specs.declared.Report.TheVariants as qaft_report
use Rattle.qaft_rules.specs.Rules as qaft_rules

abbrev pub entry_of_qaft : qaft_reports.Report → Entry
entry_of_qaft (qaft_report.Frame n) = Frame n
entry_of_qaft qaft_report.Aborted = Aborted
entry_of_qaft qaft_report.Long = Long
entry_of_qaft qaft_report.Short = Short
entry_of_qaft qaft_report.BadCheck = BadCheck
entry_of_qaft qaft_report.BadPair = BadPair

abbrev pub entry_of_kiss : kiss_reports.Report → Entry
entry_of_kiss (kiss_report.Frame n) = Frame n
entry_of_kiss kiss_report.BadEscape = BadEscape
entry_of_kiss kiss_report.Short = Short
entry_of_kiss kiss_report.Long = Long
entry_of_kiss kiss_report.Skipped = Skipped

-- the octets that it shows of the reader's buffer
abbrev pub entry_length : Entry → ℕ
entry_length (Frame n) = n
entry_length Aborted = 0
entry_length Long = 0
entry_length Short = 0
entry_length BadCheck = 0
entry_length BadPair = 0
entry_length BadEscape = 0
entry_length Skipped = 0

-- ---- by the framing
abbrev pub flag_of : (kiss : Bool) → ℕ
flag_of kiss = cond kiss kiss_octets.flag qaft_escape.flag

-- the octets of a frame stand at the buffer's front, or behind KISS's type octet
abbrev pub data_from : (kiss : Bool) → ℕ
data_from kiss = cond kiss type_size 0

abbrev pub source_rules : (kiss : Bool) (level : ℕ) → Rules ℕ Entry
source_rules kiss level = cond kiss (told kiss_rules.rules entry_of_kiss type_size entry_length) (told (qaft_rules.rules level sum_kind) entry_of_qaft 0 entry_length)

-- the same as the rule of the shared loop
abbrev pub rule_of : (kiss : Bool) (level : ℕ) → Rule
rule_of kiss level = cond kiss kiss_reader.rule (qaft_reader.rule level sum_kind)

-- the entry of the segment that a flag found in the state s
abbrev pub entry_of : (kiss : Bool) (level : ℕ) → State → Entry
entry_of kiss level s = verdict_on (source_rules kiss level) (view s)

-- the number of the line is one more than those before it; it wraps at 2^64
abbrev pub line_of : (kiss : Bool) (k : ℕ) → Entry → (m : List ℕ) → List ℕ
line_of kiss k p m = report_line (next k) p (shown m (data_from kiss) (entry_length p))

abbrev pub counted : (k : ℕ) → Entry → ℕ
counted k p = next k
