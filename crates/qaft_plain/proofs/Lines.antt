-- Reading a line in plain numbers, chunk after chunk: the reports, data and buffer are the reader's, and the state says its state. So the
-- theorems on whole lines hold of what C programs call. Assumes nothing.
use Prim.Native.Nat.{ℕ}
use mathlib.Core.List.{List}
use mathlib.Core.Path.{◌≡◌, sym}
use Rattle.line.proofs.Simulation.{read_chunks-maps}
use Rattle.line.specs.Simulation.{place_scan, place_trace}
use Rattle.line.specs.Trace.{read_chunks}
use Rattle.qaft_read.specs.Read.{read_scan}
use Rattle.qaft_plain.specs.Plain.{reader_of, plain_scan}
use Rattle.qaft_plain.specs.declared.PlainReader.{PlainReader}
use Rattle.qaft_plain.proofs.Conversions.{goes_on}

call_of_lem : (c : PlainReader) (xs m : List ℕ) → read_scan (reader_of c) xs m ≡ place_scan reader_of (plain_scan c xs m)
unfolding read_scan plain_scan
call_of_lem c xs m i =
    let u = read_scan (reader_of c) xs m in
    record { report = u.report; taken = u.taken; state = sym (goes_on c xs m) i; buffer = u.buffer }

-- however a line is cut, a caller in plain numbers gets what a caller of the reader gets
pub reads_as_the_reader : (c : PlainReader) (xss : List (List ℕ)) (m : List ℕ)
    → read_chunks read_scan (reader_of c) xss m ≡ place_trace reader_of (read_chunks plain_scan c xss m)
reads_as_the_reader c xss m = read_chunks-maps reader_of plain_scan read_scan call_of_lem xss c m
