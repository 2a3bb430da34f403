-- KISS: the rule that the reader hands to the shared loop, and its state there. Cited by the contracts of the reader's
-- functions; that the rule's meaning is KISS's rules is a law (proofs/SharedRule). Assumes nothing.
use Rattle.std.specs.Prelude.{true}
use Rattle.deframer.specs.Rule.{first_check}
use Rattle.deframer.specs.declared.Rule.{Rule}
use Rattle.deframer.specs.declared.State.{State}
use Rattle.kiss.specs.Limits.{max_segment}
use Rattle.kiss.specs.Octets.{escapes}
use Rattle.kiss_read.specs.declared.Reader.{Reader}

-- a pair that stands for no octet that is escaped is bad, and stands for its octet as it is; what is kept along the way is the first octet
abbrev pub rule : Rule
rule = record { escapes = escapes; mask = 0; strict = true; cap = max_segment; check = first_check }

abbrev pub state_of : Reader → State
state_of r = record { synced = r.synced; pending = r.pending; bad = r.bad_escape; count = r.count; check = r.type_octet }

abbrev pub reader_of : State → Reader
reader_of s = record { synced = s.synced; pending = s.pending; count = s.count; type_octet = s.check; bad_escape = s.bad }
