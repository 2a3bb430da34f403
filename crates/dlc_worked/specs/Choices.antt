-- Short lists of events at two ends, of a few kinds, on the step table. Cited by proofs/Shortest, where all such lists of up to three events are searched.
-- Assumes nothing.
--
--   Choice            what may happen at an end: a payload of one octet, its count; the timer; an arrival; the loss of one of the first three packets of
--                     its line. Every call has a reply buffer that is long enough
--   play ms w         the world after a list of them
--   Waited d ms w     demand 3's premise on the timer calls of a side
--   BothWays          what demand 3 claims, of the ends of a world of models
use Rattle.std.specs.Prelude.{suc, List, [], ◌∷◌, length}
use Rattle.dlc_table.specs.Model.{Model}
use Rattle.dlc.specs.Limits.{slots}
use Rattle.window.specs.Sides.{Side, end_at}
use Rattle.dlc_pair.specs.World.{End, World}
use Rattle.dlc_pair.specs.History.{Act, payload, timer, arrival, loss, WaitsAt}
use Rattle.dlc_pair.specs.Demand3.{OneWay}
use Rattle.dlc_pair.specs.TableRun.{table_step_at}
use Rattle.dlc_worked.specs.Script.{buffer}

pub data Choice : Type 0 where
  offer : Choice
  timeout : Choice
  receive : Choice
  lose_first : Choice
  lose_second : Choice
  lose_third : Choice

-- the event that it is, at an end
abbrev pub act_of : Choice → End Model → Act
act_of offer e = payload (suc (length e.accepted) ∷ []) buffer
act_of timeout e = timer buffer
act_of receive e = arrival buffer
act_of lose_first e = loss 0
act_of lose_second e = loss 1
act_of lose_third e = loss 2

pub record Move : Type 0 where
  pub side : Side
  pub choice : Choice

abbrev pub moved : Side → Choice → World Model → World Model
moved d c w = table_step_at slots d (act_of c (end_at d w)) w

abbrev pub play : List Move → World Model → World Model
play [] w = w
play (m ∷ ms) w = play ms (moved m.side m.choice w)

-- every timer call of this side came when none of its DATA and no DACK to it was on the line
abbrev pub Waited : Side → List Move → World Model → Type 0
Waited d [] w = Unit {0}
Waited d (m ∷ ms) w = WaitsAt d m.side (act_of m.choice (end_at m.side w)) w × Waited d ms (moved m.side m.choice w)

-- demand 3 of the ends of a world, where these premises say that their timers waited
pub record BothWays (w : World Model) (Left Right : Type 0) : Type 0 where
  pub left_to_right : OneWay w.left w.right Left
  pub right_to_left : OneWay w.right w.left Right
