-- QAFT: the rule that the reader hands to the shared loop, and its state there. Cited by the contracts of the reader's
-- functions; that the rule's meaning is QAFT's rules is a law (proofs/SharedRule). Assumes nothing.
use Rattle.std.specs.Prelude.{ℕ, true}
use Rattle.deframer.specs.Rule.{sum_check, register_check}
use Rattle.deframer.specs.declared.Rule.{Rule}
use Rattle.deframer.specs.declared.State.{State}
use Rattle.qaft.specs.Escape.{mask, escapes_of}
use Rattle.qaft.specs.Limits.{by_kind, max_segment_of}
use Rattle.qaft_read.specs.declared.Reader.{Reader}

-- the octets that the level escapes have a meaning where they stand raw: flag, escape, and at level 1 flow control; a pair stands for its octet xor 20,
-- and is bad where that is none of them; the check runs along by its kind
abbrev pub running_check : (kind : ℕ) → ℕ
running_check kind = by_kind kind sum_check register_check

abbrev pub rule : (level kind : ℕ) → Rule
rule level kind = record { escapes = escapes_of level; mask = mask; strict = true; cap = max_segment_of kind; check = running_check kind }

abbrev pub state_of : Reader → State
state_of r = record { synced = r.synced; pending = r.pending; bad = r.bad_pair; count = r.count; check = r.check }

abbrev pub reader_at : (level kind : ℕ) → State → Reader
reader_at level kind s = record { level = level; check_kind = kind; synced = s.synced; pending = s.pending; count = s.count; check = s.check; bad_pair = s.bad }
