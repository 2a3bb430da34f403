-- What a conversion makes of a capture's reports, and how it reads and writes, by which way it goes. Cited by the contracts. Assumes nothing.
--
--   source_rules to_kiss level          the rules by which the capture is read, with a report's gist for a report
--   text_of to_kiss level at_flag g m    what is written of a report whose octets stand in the buffer m
use Rattle.std.specs.Prelude.{ℕ, Bool, cond, List, [], ◌==◌}
use Rattle.converter.specs.declared.Gist.{Gist}
use Rattle.converter.specs.declared.Gist.TheVariants.{Frame, Skipped, Other}
use Rattle.deframer.specs.Scan.{view}
use Rattle.deframer.specs.declared.Rule.{Rule}
use Rattle.deframer.specs.declared.State.{State}
use Rattle.framing.specs.Closing.{verdict_on}
use Rattle.framing.specs.Reports.{shown}
use Rattle.framing.specs.Rules.{Rules}
use Rattle.framing.specs.Told.{told}
use Rattle.kiss.specs.Frame as kiss
use Rattle.kiss.specs.Limits.{type_size}
use Rattle.kiss_read.specs.Scanned as kiss_reader
use Rattle.kiss_report.specs.declared.Report as kiss_reports
use Rattle.kiss_report.specs.declared.Report.TheVariants as kiss_report
use Rattle.kiss_rules.specs.Rules as kiss_rules
use Rattle.qaft.specs.Frame as qaft
use Rattle.qaft.specs.Limits.{sum_kind}
use Rattle.qaft_read.specs.Scanned as qaft_reader
use Rattle.qaft_report.specs.declared.Report as qaft_reports
use Rattle.qaft_report.specs.declared.Report.TheVariants as qaft_report
use Rattle.qaft_rules.specs.Rules as qaft_rules

-- "writes the frames in order and answers how many, how many 63s and how many other reports": QAFT has no 63s
abbrev pub gist_of_qaft : qaft_reports.Report → Gist
gist_of_qaft (qaft_report.Frame n) = Frame n
gist_of_qaft qaft_report.Aborted = Other
gist_of_qaft qaft_report.Long = Other
gist_of_qaft qaft_report.Short = Other
gist_of_qaft qaft_report.BadCheck = Other
gist_of_qaft qaft_report.BadPair = Other

abbrev pub gist_of_kiss : kiss_reports.Report → Gist
gist_of_kiss (kiss_report.Frame n) = Frame n
gist_of_kiss kiss_report.BadEscape = Other
gist_of_kiss kiss_report.Short = Other
gist_of_kiss kiss_report.Long = Other
gist_of_kiss kiss_report.Skipped = Skipped

-- the octets that it shows of the reader's buffer
abbrev pub gist_length : Gist → ℕ
gist_length (Frame n) = n
gist_length Skipped = 0
gist_length Other = 0

-- ---- by which way it goes
-- the octets of a frame stand at the buffer's front, or behind KISS's type octet
abbrev pub data_from : (to_kiss : Bool) → ℕ
data_from to_kiss = cond to_kiss 0 type_size

abbrev pub source_rules : (to_kiss : Bool) (level : ℕ) → Rules ℕ Gist
source_rules to_kiss level = cond to_kiss (told (qaft_rules.rules level sum_kind) gist_of_qaft 0 gist_length) (told kiss_rules.rules gist_of_kiss type_size gist_length)

-- the same as the rule of the shared loop
abbrev pub rule_of : (to_kiss : Bool) (level : ℕ) → Rule
rule_of to_kiss level = cond to_kiss (qaft_reader.rule level sum_kind) kiss_reader.rule

-- the gist of the segment that a flag found in the state s
abbrev pub gist_of : (to_kiss : Bool) (level : ℕ) → State → Gist
gist_of to_kiss level s = verdict_on (source_rules to_kiss level) (view s)

-- a frame as it is written: of KISS, or of QAFT at a level
abbrev pub frame_of : (to_kiss : Bool) (level : ℕ) (at_flag : Bool) → List ℕ → List ℕ
frame_of to_kiss level at_flag d = cond to_kiss (kiss.frame at_flag d) (qaft.frame level sum_kind at_flag d)

-- what is written of a report: a frame, or nothing
abbrev pub text_of : (to_kiss : Bool) (level : ℕ) (at_flag : Bool) → Gist → (m : List ℕ) → List ℕ
text_of to_kiss level at_flag (Frame n) m = frame_of to_kiss level at_flag (shown m (data_from to_kiss) n)
text_of to_kiss level at_flag Skipped m = []
text_of to_kiss level at_flag Other m = []

-- the same by the number of its octets, where no frame is empty
unfoldable pub text_by : (to_kiss : Bool) (level : ℕ) (at_flag : Bool) (n : ℕ) (m : List ℕ) → List ℕ
text_by to_kiss level at_flag n m = cond (n == 0) [] (frame_of to_kiss level at_flag (shown m (data_from to_kiss) n))
