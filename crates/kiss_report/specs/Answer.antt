-- KISS: the number and the values that each case of the reader's answer stands for. Cited by contracts and theorems. Assumes nothing.
use Rattle.std.specs.Prelude.{ℕ}
use Rattle.kiss.specs.Answers.{bad_escape, short, long, skipped}
use Rattle.kiss_report.specs.Outcome.{Outcome}
use Rattle.kiss_report.specs.Outcome.Outcome.{Refused, Reported, UsedUp}
use Rattle.kiss_report.specs.declared.Report.{Report}
use Rattle.kiss_report.specs.declared.Report.TheVariants.{Frame, BadEscape, Short, Long, Skipped}
use Rattle.qaft.specs.Answers.{frame, used_up}

-- the number given back
abbrev pub report_number : Report → ℕ
report_number (Frame n) = frame
report_number BadEscape = bad_escape
report_number Short = short
report_number Long = long
report_number Skipped = skipped

abbrev pub number : Outcome → ℕ
number (Refused n) = n
number (Reported p) = report_number p
number UsedUp = used_up

-- the number of payload octets shown: 0 unless the report is a frame
abbrev pub report_length : Report → ℕ
report_length (Frame n) = n
report_length BadEscape = 0
report_length Short = 0
report_length Long = 0
report_length Skipped = 0

abbrev pub payload_length : Outcome → ℕ
payload_length (Refused n) = 0
payload_length (Reported p) = report_length p
payload_length UsedUp = 0
