-- KISS: the reader's state, which request 2026-05 names field by field. Cited by the reader's definitions and contracts. Assumes nothing.
--
--   synced       whether a flag has come
--   pending      a DB waits for its octet
--   count        octets of the segment after undoing escapes, 2,562 for all above
--   type_octet   the first of them
--   bad_escape   whether an escape was bad
use Rattle.std.specs.Prelude.{ℕ, Bool, true, false, not, ◌&&◌, ◌||◌, ltb, eqb}
use Rattle.framing.specs.Rules.{State}
use Rattle.kiss.specs.Limits.{count_cap}
use Rattle.kiss_read.specs.declared.Reader.{Reader}

-- before any flag
abbrev pub fresh : Reader
fresh = record { synced = false; pending = false; count = 0; type_octet = 0; bad_escape = false }

-- after a flag, which opens a segment
abbrev pub opened : Reader
opened = record { synced = true; pending = false; count = 0; type_octet = 0; bad_escape = false }

-- the state as framing has it, and the place of one of framing's among the reader's: field by field
abbrev pub view : Reader → State ℕ
view r = record { synced = r.synced; pending = r.pending; bad = r.bad_escape; count = r.count; check = r.type_octet }

abbrev pub place : State ℕ → Reader
place s = record { synced = s.synced; pending = s.pending; count = s.count; type_octet = s.check; bad_escape = s.bad }

-- the three ways of being ill formed: "5 for a count over 2,562, type or bad escape not 0 at count 0, or anything not 0 before a flag"
abbrev pub over_cap : Reader → Bool
over_cap r = ltb count_cap r.count

abbrev pub type_of_nothing : Reader → Bool
type_of_nothing r = eqb r.count 0 && (r.bad_escape || not (eqb r.type_octet 0))

abbrev pub segment_before_flag : Reader → Bool
segment_before_flag r = not r.synced && (r.pending || (not (eqb r.count 0) || (r.bad_escape || not (eqb r.type_octet 0))))

unfoldable pub malformed : Reader → Bool
malformed r = over_cap r || (type_of_nothing r || segment_before_flag r)
