-- KISS: the rules by which its lines are read, for framing: the request's sentences one by one. Cited by the reader's definitions and by the theorems.
-- Assumes nothing.
--
--   verdict dangling bad n kind   what a segment is reported as
--   rules                         all rules
--   framed d                      the report of a frame, with its payload d
use Rattle.std.specs.Prelude.{ℕ, ◌-◌, Bool, true, false, cond, ◌||◌, List, ltb, eqb, length}
use Rattle.framing.specs.Reports.{Reported}
use Rattle.framing.specs.Rules.{Rules}
use Rattle.kiss.specs.Limits.{type_size, min_segment, max_segment}
use Rattle.kiss.specs.Octets.{flag, escape_octet, stands_for, is_bad_escape, is_data}
use Rattle.kiss_report.specs.Answer.{report_length}
use Rattle.kiss_report.specs.declared.Report.{Report}
use Rattle.kiss_report.specs.declared.Report.TheVariants.{Frame, BadEscape, Short, Long, Skipped}

-- "60 bad escape, 61 short (no payload), 62 long, 63 skipped, in that order, else 10": a DB that C0 left without its octet is a bad escape too; "frames of
-- another port or command are skipped"; a frame has its number of payload octets, all but the type
unfoldable pub verdict : (dangling bad : Bool) (n kind : ℕ) → Report
verdict dangling bad n kind =
    cond (dangling || bad) BadEscape
    (cond (ltb n min_segment) Short
    (cond (ltb max_segment n) Long
    (cond (is_data kind) (Frame (n - type_size))
    Skipped)))

-- no octet is skipped; DC and DD stand for C0 and DB, "another octet stands for itself" and is reported; the count goes up to 2,561 octets, 2,562 stands
-- for all above; what is kept along the way is the type octet, "counted and stored first"; a frame's payload stands behind it
abbrev pub rules : Rules ℕ Report
rules = record {
  flag = flag;
  escape = escape_octet;
  skips = λ x. false;
  partner = stands_for;
  bad_pair = is_bad_escape;
  cap = max_segment;
  blank = 0;
  add = λ n kind x. cond (eqb n 0) x kind;
  is_blank = λ kind. eqb kind 0;
  is_check = λ kind. true;
  verdict = verdict;
  from = λ p. type_size;
  size = report_length;
}

abbrev pub framed : (d : List ℕ) → Reported Report
framed d = record { report = Frame (length d); octets = d }
