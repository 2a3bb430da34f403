-- Two ends whose calls do just what the step table says, over the limit of places. Cited by proofs/ByTheTable, where the histories of demand 3 are
-- such runs, and by whoever asks what another limit or two editions would do (dlc_worked). Assumes nothing.
--
--   table_step limit a w    the world after an event at the left end
--   table_run limit es w    the world after a list of events
--   InOrder limit d d'     whether from two open ends of these editions, whatever the events, each end delivers an initial part of what was accepted at
--                          the other
--
-- The world is that of demand 3, with models for its links: a model has no free slots, so nothing is left open and a list of events has one run.
use Rattle.std.specs.Prelude.{ℕ, length}
use mathlib.Core.List.{List, [], ◌∷◌, IsPrefix}
use Rattle.std.proofs.Math.ListN.{get_elem?}
use Rattle.dlc_packet.specs.Numbers.{Edition}
use Rattle.dlc_table.specs.Model.{Model, opened}
use Rattle.dlc_table.specs.Events.{Effect, start_of, timer_of, payload_of, arrival_of}
use Rattle.dlc.specs.Calls.{answer_of}
use Rattle.dlc_run.specs.Replies.{Octets, Packets, is_data, is_dack, accepted_by, delivered_by}
use Rattle.window.specs.Sides.{Side, left, right, mirror}
use Rattle.dlc_pair.specs.World.{End, World, initial}
use Rattle.dlc_pair.specs.History.{Act, payload, timer, start, arrival, loss, Event, end_after, relined, lost_by, lost_at}

-- an end after a call with this effect
abbrev pub table_called : Effect → Packets → Packets → ℕ → End Model → End Model
table_called d accepted delivered n e = end_after d.after d.code d.packets accepted delivered n e

-- the world after a call at the left end that brings no packet
abbrev pub table_offered : Effect → Packets → World Model → World Model
table_offered d accepted w = record { left = table_called d accepted [] 0 w.left; right = w.right }

-- and after the packet q has arrived there; qs are left on the right end's line
abbrev pub table_reached : Effect → Octets → Packets → World Model → World Model
table_reached d q qs w = record {
  left = table_called d [] (delivered_by q (answer_of d)) (lost_by (is_dack q) (answer_of d)) w.left;
  right = relined qs (lost_by (is_data q) (answer_of d)) w.right;
}

module _ (limit : ℕ) where
  -- an arrival at the left end, by the right end's line
  abbrev pub table_arrived : Packets → Octets → World Model → World Model
  table_arrived [] before w = w
  table_arrived (q ∷ qs) before w = table_reached (arrival_of limit w.left.link q (length before)) q qs w

  -- an event at the left end
  abbrev pub table_step : Act → World Model → World Model
  table_step (payload p before) w =
      let d = payload_of limit w.left.link p (length before) in
      table_offered d (accepted_by p (answer_of d)) w
  table_step (timer before) w = table_offered (timer_of limit w.left.link (length before)) [] w
  table_step (start before) w = table_offered (start_of limit w.left.link (length before)) [] w
  table_step (arrival before) w = table_arrived w.right.line before w
  table_step (loss n) w = lost_at n (get_elem? w.left.line n) w

  -- at either end
  abbrev pub table_step_at : Side → Act → World Model → World Model
  table_step_at left a w = table_step a w
  table_step_at right a w = mirror (table_step a (mirror w))

  abbrev pub table_run : List Event → World Model → World Model
  table_run [] w = w
  table_run (e ∷ es) w = table_run es (table_step_at e.side e.act w)

-- two ends that stand open, each with its edition; demand 3 has the same at both
abbrev pub open_ends : Edition → Edition → World Model
open_ends d d' = initial (opened d) (opened d')

-- demand 3's first part, as a claim about the table with this limit and these editions
abbrev pub InOrder : ℕ → Edition → Edition → Type 0
InOrder limit d d' = (es : List Event) → IsPrefix (table_run limit es (open_ends d d')).right.delivered (table_run limit es (open_ends d d')).left.accepted
    × IsPrefix (table_run limit es (open_ends d d')).left.delivered (table_run limit es (open_ends d d')).right.accepted
