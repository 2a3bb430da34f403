-- Between the reader's state and its numbers: numbers of a state say that state, and a call in plain numbers goes on where the reader's does.
-- Assumes nothing.
use Prim.Native.Nat.{ℕ}
use mathlib.Core.List.{List}
use mathlib.Core.Option.{Option, none, some}
use mathlib.Core.Path.{◌≡◌, refl}
use Rattle.kiss_report.specs.declared.Report.{Report}
use Rattle.kiss_read.specs.Read.{Call, outcome_of, call_of, scan_call, refusal, read}
use Rattle.kiss_read.specs.Step.{action}
use Rattle.line.specs.Scan.{scan}
use Rattle.kiss_read.proofs.Refusals.{read_ind}
use Rattle.kiss_read.specs.declared.Reader.{Reader}
use Rattle.kiss_plain.specs.Plain.{reader_of, plain_of, later, answer_of}
use Rattle.kiss_plain.specs.declared.PlainReader.{PlainReader}
use Rattle.truths.proofs.Truths.{truth_bit}

-- the numbers of a state say that state
pub reader_plain : (r : Reader) → reader_of (plain_of r) ≡ r
reader_plain r i =
    record { synced = truth_bit r.synced i; pending = truth_bit r.pending i; count = r.count; type_octet = r.type_octet; bad_escape = truth_bit r.bad_escape i }

module _ (c : PlainReader) where
  -- the state for the next call says the state of the reader's answer
  abbrev GoesOn : Call → Type 0
  GoesOn k = reader_of (answer_of c k.answer).reader ≡ k.answer.reader

  scanned : (o : Option Report) (r : Reader) → reader_of (later c (outcome_of o) r) ≡ r
  unfolding outcome_of
  scanned none r = reader_plain r
  scanned (some p) r = reader_plain r

  refusal_goes_on : (m : List ℕ) (n : ℕ) → GoesOn (refusal (reader_of c) m n)
  unfolding refusal
  refusal_goes_on m n = refl

  scan_goes_on : (xs m : List ℕ) → GoesOn (scan_call (reader_of c) xs m)
  unfolding scan_call call_of
  scan_goes_on xs m = let u = scan action (reader_of c) xs m in scanned u.report u.state

  pub goes_on : (xs m : List ℕ) → GoesOn (read (reader_of c) xs m)
  goes_on xs m = read_ind (reader_of c) xs m GoesOn (refusal_goes_on m) (λ _. scan_goes_on xs m)
