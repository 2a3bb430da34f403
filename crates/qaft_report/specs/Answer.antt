-- QAFT: the number and the values that each case of the reader's answer stands for. Cited by contracts and theorems. Assumes nothing.
use Rattle.std.specs.Prelude.{ℕ, cond, List, [], leb, length, take}
use Rattle.qaft.specs.Answers.{frame, aborted, long, short, bad_check, used_up, bad_pair}
use Rattle.qaft_report.specs.Outcome.{Outcome}
use Rattle.qaft_report.specs.Outcome.Outcome.{Refused, Reported, UsedUp}
use Rattle.qaft_report.specs.declared.Report.{Report}
use Rattle.qaft_report.specs.declared.Report.TheVariants.{Frame, Aborted, Long, Short, BadCheck, BadPair}

-- the number given back
abbrev pub report_number : Report → ℕ
report_number (Frame n) = frame
report_number Aborted = aborted
report_number Long = long
report_number Short = short
report_number BadCheck = bad_check
report_number BadPair = bad_pair

abbrev pub number : Outcome → ℕ
number (Refused n) = n
number (Reported p) = report_number p
number UsedUp = used_up

-- the number of data octets shown: 0 unless the report is a frame
abbrev pub report_length : Report → ℕ
report_length (Frame n) = n
report_length Aborted = 0
report_length Long = 0
report_length Short = 0
report_length BadCheck = 0
report_length BadPair = 0

abbrev pub data_length : Outcome → ℕ
data_length (Refused n) = 0
data_length (Reported p) = report_length p
data_length UsedUp = 0

-- the first n octets of the buffer m, or none where it has fewer
abbrev pub shown : (m : List ℕ) (n : ℕ) → List ℕ
shown m n = cond (leb n (length m)) (take n m) []
