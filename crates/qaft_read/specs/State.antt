-- QAFT: the reader's state, which document 01 names field by field. Cited by the reader's definitions and contracts. Assumes nothing.
--
--   level        0 or 1
--   check_kind   0 or 1: the sum, or the check sequence (2026-07)
--   synced       whether a flag has come
--   pending      a 7D waits for its partner
--   count        octets of the segment after undoing escapes, 2,562 for all above, with the check sequence 2,563
--   check        their sum modulo 256; with the check sequence the register: "the state holds the running check in place of the sum"
--   bad_pair     a bad pair came in the segment (2026-04)
use Rattle.std.specs.Prelude.{ℕ, Bool, true, false, not, ◌&&◌, ◌||◌, ltb, eqb}
use Rattle.framing.specs.Rules.{State}
use Rattle.qaft.specs.Check.{check_by}
use Rattle.qaft.specs.Limits.{count_cap_of}
use Rattle.qaft_read.specs.declared.Reader.{Reader}

-- "fresh before any flag"
abbrev pub fresh : (level kind : ℕ) → Reader
fresh level kind = record { level = level; check_kind = kind; synced = false; pending = false; count = 0; check = (check_by kind).blank; bad_pair = false }

-- after a flag, which opens a segment
abbrev pub opened : Reader → Reader
opened r = record { level = r.level; check_kind = r.check_kind; synced = true; pending = false; count = 0; check = (check_by r.check_kind).blank; bad_pair = false }

-- the state as framing has it, which knows no level and no kind, and the place of one of framing's among the reader's
abbrev pub view : Reader → State ℕ
view r = record { synced = r.synced; pending = r.pending; bad = r.bad_pair; count = r.count; check = r.check }

abbrev pub place : (level kind : ℕ) → State ℕ → Reader
place level kind s = record { level = level; check_kind = kind; synced = s.synced; pending = s.pending; count = s.count; check = s.check; bad_pair = s.bad }

-- the ways of being ill formed (5): "count over 2,562, sum not 0 at count 0, or pending or count not 0 before a flag"; "the state marks that" a bad
-- pair "came, refused by 5 at count 0" (2026-04); with the check sequence "5 is given where it is not all ones at count 0" (2026-07), and since one field
-- serves both checks, a sum that does not fit in eight bits
abbrev pub over_cap : Reader → Bool
over_cap r = ltb (count_cap_of r.check_kind) r.count

abbrev pub no_check : Reader → Bool
no_check r = not ((check_by r.check_kind).is_check r.check)

abbrev pub check_of_nothing : Reader → Bool
check_of_nothing r = eqb r.count 0 && (r.bad_pair || not (eqb r.check (check_by r.check_kind).blank))

abbrev pub segment_before_flag : Reader → Bool
segment_before_flag r = not r.synced && (r.pending || not (eqb r.count 0))

unfoldable pub malformed : Reader → Bool
malformed r = over_cap r || (no_check r || (check_of_nothing r || segment_before_flag r))
