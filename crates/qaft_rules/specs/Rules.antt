-- QAFT: the rules by which its lines are read, for framing: the paper's sentences one by one, with either check. Cited by the reader's definitions and by the
-- theorems. Assumes nothing.
--
--   verdict kind dangling bad n a   what a segment is reported as (the paper's "judgement" of a "stretch")
--   is_bad_pair level y               whether 7D and y stand for no octet that the level escapes
--   rules level kind                all rules, at a level and with the check of a kind
--   framed d                        the report of a frame, with its data d
use Rattle.std.specs.Prelude.{ℕ, ◌-◌, Bool, cond, not, List, ltb, eqb, length}
use Rattle.framing.specs.Reports.{Reported}
use Rattle.framing.specs.Rules.{Rules}
use Rattle.qaft.specs.Check.{check_by}
use Rattle.qaft.specs.Escape.{flag, escape_octet, masked, is_flow_control, is_escaped}
use Rattle.qaft.specs.Limits.{check_size, min_segment_of, max_segment_of}
use Rattle.qaft_report.specs.Answer.{report_length}
use Rattle.qaft_report.specs.declared.Report.{Report}
use Rattle.qaft_report.specs.declared.Report.TheVariants.{Frame, Aborted, Long, Short, BadCheck, BadPair}

-- "first that applies: dangling 7D is aborted"; "16 bad pair, judged after aborted and before long" (2026-04); "over 2,561 octets after undoing escapes is
-- long; under 2 is short; a sum not 0 is a bad check; else a frame", which has its number of data octets, all but the check. With the longer check (2026-07)
-- "long is over 2,562, short is under 3", and the register is the residue after data and their check alone
unfoldable pub verdict : (kind : ℕ) (dangling bad : Bool) (n a : ℕ) → Report
verdict kind dangling bad n a =
    cond dangling Aborted
    (cond bad BadPair
    (cond (ltb (max_segment_of kind) n) Long
    (cond (ltb n (min_segment_of kind)) Short
    (cond (eqb a (check_by kind).good) (Frame (n - check_size kind))
    BadCheck))))

-- "a pair is good only if it stands for an octet that the level escapes: 5D and 5E at level 0, with 31 and 33 at level 1" (2026-04)
unfoldable pub is_bad_pair : (level y : ℕ) → Bool
is_bad_pair level y = not (is_escaped level (masked y))

-- "at level 1 a raw 11 or 13 is flow control. It is skipped everywhere, also between 7D and its partner" (2026-02, in place of 01's "a raw 11 or 13
-- is data at both levels"; at level 0 it is data); "7D and the next octet x stand for x xor 20, for every x": "a bad pair's octet counts, sums and is stored
-- as before" (2026-04); the count goes up to 2,561 octets, "2,562 stands for all above", with the longer check one more; the running check is "their sum
-- modulo 256", or the register (2026-07); a frame's data stand at the buffer's front
abbrev pub rules : (level kind : ℕ) → Rules ℕ Report
rules level kind = record {
  flag = flag;
  escape = escape_octet;
  skips = is_flow_control level;
  partner = masked;
  bad_pair = is_bad_pair level;
  cap = max_segment_of kind;
  blank = (check_by kind).blank;
  add = λ n a x. (check_by kind).add a x;
  is_blank = λ a. eqb a (check_by kind).blank;
  is_check = (check_by kind).is_check;
  verdict = verdict kind;
  from = λ p. 0;
  size = report_length;
}

abbrev pub framed : (d : List ℕ) → Reported Report
framed d = record { report = Frame (length d); octets = d }
