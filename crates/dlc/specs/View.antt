-- A link value: when it is well formed, and how the step table sees it. Cited by the link's functions. Assumes nothing.
--
--   well_formed l   whether a link value is one
--   view l         the model of a link value: of a well-formed one all but the free slots, on which no answer depends (proofs/FreeSlots.antt);
--                  any other is seen as ill formed, which is all that its answers depend on
use Rattle.std.specs.Prelude.{ℕ, Bool, ◌&&◌, ltb, eqb}
use Rattle.dlc_packet.specs.Numbers.{modulus, edition_of, known_edition}
use Rattle.dlc_table.specs.declared.State.{State}
use Rattle.dlc_table.specs.declared.State.TheVariants.{Idle, Reset, Data, Wait}
use Rattle.dlc_table.specs.Model.{Model}
use Rattle.dlc_queue.specs.declared.Queue.{Queue}
use Rattle.dlc_queue.specs.Queue.{payloads, held, at_rest, formed}
use Rattle.dlc.specs.declared.Link.{Link}

-- whether a state goes with a queue of n payloads, which is at rest or not, and the numbers base and expected: DLDWAIT is the same as a queue that is
-- not empty; DLIDLE and DLRESET have a queue at rest and the numbers 0
abbrev pub state_fits : State → ℕ → Bool → ℕ → ℕ → Bool
state_fits Idle n rests base expected = rests && (eqb base 0 && eqb expected 0)
state_fits Reset n rests base expected = rests && (eqb base 0 && eqb expected 0)
state_fits Data n rests base expected = eqb n 0
state_fits Wait n rests base expected = ltb 0 n

-- whether a link value is well formed; where it is not, every event answers 27: so "a link value with an unknown edition answers 27" (2026-08)
unfoldable pub well_formed : Link → Bool
well_formed l =
    formed l.queue
    && (ltb l.base modulus
    && (ltb l.expected modulus
    && (known_edition l.edition && state_fits l.state (held l.queue) (at_rest l.queue) l.base l.expected)))

-- a link as the table sees it, where it is said whether it is well formed
abbrev pub seen : Bool → Link → Model
seen ok l = record {
  ok = ok;
  state = l.state;
  queue = payloads l.queue;
  base = l.base;
  expected = l.expected;
  edition = edition_of l.edition;
}

abbrev pub view : Link → Model
view l = seen (well_formed l) l

-- the link with another state, queue and numbers; its edition goes along. Every link that an event makes of a link is one
abbrev pub relinked : Link → State → Queue → ℕ → ℕ → Link
relinked l s q b e = record { state = s; queue = q; base = b; expected = e; edition = l.edition }
