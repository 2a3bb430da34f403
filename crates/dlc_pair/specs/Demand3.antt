-- Demand 3: one claim about a list of events. Proved in proofs/Demand3. Assumes nothing.
--
-- The theorem: for every type of links with a view v, all links l, l' with BothOpen v l l', every list of events es and every history h of it from
-- `initial l l'`: Demand3 v es (initial l l') h. It is stated of `Link` and of the link that C programs hold.
use Rattle.std.specs.Prelude.{◌+◌, ◌*◌, ◌≤◌, ◌≡◌, length}
use mathlib.Core.List.{List, IsPrefix}
use Rattle.dlc_table.specs.Answers.{bad_link}
use Rattle.dlc_table.specs.Model.{Model, opened}
use Rattle.dlc.specs.Limits.{slots}
use Rattle.dlc_run.specs.Replies.{Never}
use Rattle.window.specs.Sides.{left, right}
use Rattle.dlc_pair.specs.World.{End, World, data_sent}
use Rattle.dlc_pair.specs.History.{Event, History, final, TimerWaits}

-- the links that it starts from: both stand open, and "both ends use the same edition" (2026-08)
pub record BothOpen {L : Type 0} (v : L → Model) (l l' : L) : Type 0 where
  pub left : v l ≡ opened (v l).edition
  pub right : v l' ≡ opened (v l').edition
  pub same : (v l).edition ≡ (v l').edition

-- from a sender to its receiver:
--   prefix   the payloads delivered are an initial part of those accepted, in order, empty ones too
--   bound    where the sender's timer waited, DATA sent ≤ accepted + fifteen for each lost ("plus fifteen for each lost", 2026-06)
--   formed   27 is never its answer
pub record OneWay {L : Type 0} (sender receiver : End L) (Waited : Type 0) : Type 0 where
  pub prefix : IsPrefix receiver.delivered sender.accepted
  pub bound : Waited → data_sent sender ≤ length sender.accepted + slots * sender.lost
  pub formed : Never bad_link sender.answers

pub record Demand3 {L : Type 0} (v : L → Model) (es : List Event) (w : World L) (h : History v es w) : Type 0 where
  pub left_to_right : OneWay (final v es w h).left (final v es w h).right (TimerWaits v left es w h)
  pub right_to_left : OneWay (final v es w h).right (final v es w h).left (TimerWaits v right es w h)
