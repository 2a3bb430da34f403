-- The KISS reader's state and answer in plain numbers. Cited by the functions of this crate and by what C programs call. Assumes nothing.
--
--   reader_of c, plain_of r     the state that numbers say, and the numbers of a state
--   answer_of c a              the answer a to a call with the state c, in plain numbers
--   plain_scan c xs m          a call as the generic caller of the crate line sees it
use Rattle.std.specs.Prelude.{ℕ, List}
use Rattle.line.specs.Scan.{Scan}
use Rattle.kiss_report.specs.Answer.{number, payload_length}
use Rattle.kiss_report.specs.Outcome.{Outcome}
use Rattle.kiss_report.specs.Outcome.Outcome.{Refused, Reported, UsedUp}
use Rattle.kiss_report.specs.declared.Report.{Report}
use Rattle.kiss_read.specs.Read.{read, report_of}
use Rattle.kiss_read.specs.Answer.{Answer}
use Rattle.kiss_read.specs.declared.Reader.{Reader}
use Rattle.kiss_plain.specs.declared.PlainReader.{PlainReader}
use Rattle.kiss_plain.specs.declared.PlainAnswer.{PlainAnswer}
use Rattle.truths.specs.Truths.{truth, bit}

-- any number but 0 stands for true, and true is given back as 1
abbrev pub reader_of : PlainReader → Reader
reader_of c = record { synced = truth c.synced; pending = truth c.pending; count = c.count; type_octet = c.type_octet; bad_escape = truth c.bad_escape }

abbrev pub plain_of : Reader → PlainReader
plain_of r = record { synced = bit r.synced; pending = bit r.pending; count = r.count; type_octet = r.type_octet; bad_escape = bit r.bad_escape }

-- the state for the next call; after a refusal "returned as it came", so the very numbers
abbrev pub later : PlainReader → Outcome → Reader → PlainReader
later c (Refused n) r = c
later c (Reported p) r = plain_of r
later c UsedUp r = plain_of r

-- the paper's number and the length shown in place of the enum
abbrev pub answer_of : PlainReader → Answer → PlainAnswer
answer_of c a =
    record {
      number = number a.outcome;
      taken = a.taken;
      length = payload_length a.outcome;
      reader = later c a.outcome a.reader;
    }

-- a call with the chunk xs and the buffer m; a refusal reports nothing
unfoldable pub plain_scan : PlainReader → (xs m : List ℕ) → Scan PlainReader Report
plain_scan c xs m =
    let k = read (reader_of c) xs m in
    record {
      report = report_of k.answer.outcome;
      taken = k.answer.taken;
      state = (answer_of c k.answer).reader;
      buffer = k.buffer;
    }
