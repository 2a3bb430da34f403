-- The turns of a loop over a chunk's reports that makes a text of each, as long as there is room for every text. Assumes nothing.
use Prim.Native.Nat.{ℕ, ◌+◌, ◌-◌, ◌≤◌, ◌<◌}
use mathlib.Core.Bool.{true, false}
use mathlib.Core.List.{List}
use mathlib.Core.Path.{◌≡◌, ap, ◌∙◌}
use native.Mathlib.Omega.{arith}
use borrow.Author.Tests.{le-leb, lt-leb}
use lib.ListN.{length, take, drop}
use lib.Seq.{sets}
use Rattle.deframer.proofs.Turns as turns
use Rattle.deframer.specs.Rule.{rules_of}
use Rattle.deframer.specs.Scan.{view, opened, scanned}
use Rattle.deframer.specs.declared.Rule.{Rule}
use Rattle.deframer.specs.declared.Scanned.{Scanned}
use Rattle.deframer.specs.declared.State as declared
use Rattle.framing.specs.Closing.{closing, verdict_on}
use Rattle.framing.specs.Rules.{Rules, State}
use Rattle.framing.specs.Step.{step}
use Rattle.line.specs.Gather.{Gathered, later}
use Rattle.line.specs.Texts.{Texts, has_room, with_text, text_call}

module _ {R X : Type 0} (text : X → R → List ℕ → List ℕ) (tallied : X → R → X) (longest : ℕ) (rule : Rule) (rules : Rules ℕ R) (same : rules_of rule ≡ closing rules) where
  -- what was made so far
  abbrev pub texts_at : X → (out : List ℕ) (at : ℕ) → Texts X
  texts_at k out at = record { tally = k; out = out; behind = at }

  abbrev make : Texts X → R → List ℕ → Texts X
  make = with_text text tallied

  -- what comes of octets xs from the state s on, where there is room
  abbrev pub onwards : declared.State → (xs m : List ℕ) → Texts X → Gathered (State ℕ) (Texts X)
  onwards = turns.onwards make (has_room longest) rule rules same

  has_room_at : (k : X) (out : List ℕ) (at : ℕ) → at + longest ≤ length out → has_room longest (texts_at k out at) ≡ true
  unfolding has_room
  has_room_at k out at room = le-leb (at + longest) (length out) room

  no_room : (k : X) (out : List ℕ) (at : ℕ) → length out < at + longest → has_room longest (texts_at k out at) ≡ false
  unfolding has_room
  no_room k out at full = lt-leb (at + longest) (length out) full

  -- the loop stands at octet i of the chunk: what is left gives the whole, at its start
  pub start_inv : (s : declared.State) (k : X) (xs m out : List ℕ) → longest ≤ length out
      → text_call text tallied longest (step rules) (view s) k xs m out ≡ later 0 (onwards s xs m (texts_at k out 0))
  start_inv s k xs m out room = turns.start_inv make (has_room longest) rule rules same s xs m (texts_at k out 0) (has_room_at k out 0 (omega arith))

  -- there is no room for every text any more
  pub turn_full : (whole : Gathered (State ℕ) (Texts X)) (s : declared.State) (xs m : List ℕ) (k : X) (out : List ℕ) (i at : ℕ) → length out < at + longest
      → whole ≡ later i (onwards s xs m (texts_at k out at))
      → whole ≡ record { taken = i; state = view s; buffer = m; made = texts_at k out at }
  turn_full whole s xs m k out i at full inv = turns.turn_full make (has_room longest) rule rules same whole s xs m (texts_at k out at) i (no_room k out at full) inv

  -- a turn, at octet i of the chunk: u and m' are what the shared loop gave back of the rest of the chunk, and the buffer after it
  pub record Turn (whole : Gathered (State ℕ) (Texts X)) (s : declared.State) (k : X) (chunk m out : List ℕ) (i at : ℕ) (u : Scanned) (m' : List ℕ) : Type 0 where
    pub within : i ≤ length chunk
    pub segment : rule.cap ≤ length m
    pub room : at + longest ≤ length out
    pub inv : whole ≡ later i (onwards s (drop i chunk) m (texts_at k out at))
    pub answer : u ≡ (scanned rule s (take (length chunk - i) (drop i chunk)) m).answer
    pub buffer : m' ≡ (scanned rule s (take (length chunk - i) (drop i chunk)) m).buffer

  module _ {whole : Gathered (State ℕ) (Texts X)} {s : declared.State} {k : X} {chunk m out : List ℕ} {i at : ℕ} {u : Scanned} {m' : List ℕ} (turn : Turn whole s k chunk m out i at u m') where
    plain : turns.Turn make (has_room longest) rule rules same whole s chunk m (texts_at k out at) i u m'
    plain = record { within = turn.within; segment = turn.segment; wanted = has_room_at k out at turn.room; inv = turn.inv; answer = turn.answer; buffer = turn.buffer }

    pub turn_within : i + u.taken ≤ length chunk
    turn_within = turns.turn_within make (has_room longest) rule rules same plain

    -- the segment is open
    pub turn_ends : u.closed ≡ false → whole ≡ record { taken = i + u.taken; state = view u.state; buffer = m'; made = texts_at k out at }
    turn_ends = turns.turn_ends make (has_room longest) rule rules same plain

    -- a flag closed it
    module _ (shut : u.closed ≡ true) where
      pub turn_takes : 0 < u.taken
      turn_takes = turns.turn_takes make (has_room longest) rule rules same plain shut

      -- the text of the report r was put at the index `at`: the next state, the out buffer after it, and the index behind it
      module _ (r : R) (re : r ≡ verdict_on rules (view u.state)) (s' : declared.State) (k' : X) (out' : List ℕ) (at' : ℕ) (se : s' ≡ opened rule) (ke : k' ≡ tallied k r) (oe : out' ≡ sets out at (text k r m')) (ae : at' ≡ at + length (text k r m')) where
        made_is : texts_at k' out' at' ≡ make (texts_at k out at) (verdict_on rules (view u.state)) m'
        unfolding with_text
        made_is =
            (λ j. record { tally = ke j; out = oe j; behind = ae j })
            ∙ ap (λ (r : R). let t = text k r m' in record { tally = tallied k r; out = sets out at t; behind = at + length t }) re

        pub turn-goes : whole ≡ later (i + u.taken) (onwards s' (drop (i + u.taken) chunk) m' (texts_at k' out' at'))
        turn-goes = turns.turn-goes make (has_room longest) rule rules same plain shut s' (texts_at k' out' at') se made_is
