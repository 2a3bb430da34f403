-- Lists of events: the run of a list on the step table is followed by one run of the packet system, which the list alone decides; and so is every
-- history of it. Assumes nothing.
use Prim.Native.Nat.{ℕ, ◌≤◌}
use native.Mathlib.Omega.{arith}
use mathlib.Core.Path.{◌≡◌, refl, sym, ap, ◌∙◌}
use mathlib.Core.List.{List, [], ◌∷◌, map}
use Rattle.dlc_table.specs.Model.{Model}
use Rattle.dlc.specs.Limits.{slots}
use Rattle.dlc_run.specs.Replies.{is_data, is_dack}
use Rattle.window.specs.Sides.{Side, left, right, Both}
use Rattle.window.specs.Packets.{count_data, count_dack}
use Rattle.window.specs.Ends.{Rules, End as Peer}
use Rattle.window.specs.Events.{Event as PacketEvent, step_at, run, Waits as PacketWaits, WaitsAt as PacketWaitsAt, TimerWaits as PacketTimerWaits}
use Rattle.dlc_pair.specs.World.{count, World}
use Rattle.dlc_pair.specs.History.{Act, payload, timer, start, arrival, loss, Event, GivenAt, after_at, History, final, Waits, WaitsAt, TimerWaits}
use Rattle.dlc_pair.specs.TableRun.{table_run}
use Rattle.dlc_pair.proofs.Codec.{count_data_lem, count_dack_lem}
use Rattle.dlc_pair.proofs.Relation.{BothFollow, follow_mirror, same, follow_alike}
use Rattle.dlc_pair.proofs.ByTheTable.{step_at-by_the_table}
use Rattle.dlc_pair.proofs.Simulates.{Simulates}
use Rattle.dlc_pair.proofs.Steps.{act_of, step_at-follows}

abbrev pub event_of : ℕ → Event → PacketEvent
event_of limit e = record { side = e.side; act = act_of limit e.act }

-- the packet system after the same events
abbrev pub run_of : ℕ → Rules → List Event → Both Peer → Both Peer
run_of limit rules es s = run rules (map (event_of limit) es) s

-- ---- the timer's premise says the same of both
module _ {model_of : Peer → Model} {L : Type 0} {v : L → Model} {w : World L} {s : Both Peer} (f : BothFollow model_of v w s) where
  pub drained_data : count is_data w.left.line ≡ count_data s.left.line
  drained_data = ap (count is_data) f.left.line ∙ count_data_lem s.left.line f.left.sound

  pub drained_dacks : count is_dack w.right.line ≡ count_dack s.right.line
  drained_dacks = ap (count is_dack) f.right.line ∙ count_dack_lem s.right.line f.right.sound

  pub waits_follow : (a : Act) → Waits a w → PacketWaits (act_of slots a) s
  waits_follow (payload p before) h = tt
  waits_follow (timer before) h = (sym drained_data ∙ h.0, sym drained_dacks ∙ h.1)
  waits_follow (start before) h = tt
  waits_follow (arrival before) h = tt
  waits_follow (loss n) h = tt

  pub waits_back : (a : Act) → PacketWaits (act_of slots a) s → Waits a w
  waits_back (payload p before) h = tt
  waits_back (timer before) h = (drained_data ∙ h.0, drained_dacks ∙ h.1)
  waits_back (start before) h = tt
  waits_back (arrival before) h = tt
  waits_back (loss n) h = tt

waits_at-follow : {model_of : Peer → Model} {L : Type 0} {v : L → Model} (c d : Side) (a : Act) {w : World L} {s : Both Peer} → BothFollow model_of v w s
    → WaitsAt c d a w
    → PacketWaitsAt c d (act_of slots a) s
waits_at-follow left left a f h = waits_follow f a h
waits_at-follow left right a f h = tt
waits_at-follow right left a f h = tt
waits_at-follow right right a f h = waits_follow (follow_mirror f) a h

waits_at-back : {model_of : Peer → Model} {L : Type 0} {v : L → Model} (c d : Side) (a : Act) {w : World L} {s : Both Peer} → BothFollow model_of v w s
    → PacketWaitsAt c d (act_of slots a) s
    → WaitsAt c d a w
waits_at-back left left a f h = waits_back f a h
waits_at-back left right a f h = tt
waits_at-back right left a f h = tt
waits_at-back right right a f h = waits_back (follow_mirror f) a h

-- ---- lists of events on the table
pub table_follows : {limit : ℕ} (few : limit ≤ slots) {rules : Rules} {model_of : Peer → Model} (table : Simulates limit rules model_of)
    (es : List Event) {w : World Model} {s : Both Peer}
    → BothFollow model_of same w s
    → BothFollow model_of same (table_run limit es w) (run_of limit rules es s)
table_follows few table [] f = f
table_follows few table (e ∷ es) f = table_follows few table es (step_at-follows few table e.side e.act f)

-- ---- histories, which are runs on the table of as many places as there are slots
module _ {rules : Rules} {model_of : Peer → Model} (table : Simulates slots rules model_of) where
  event_follows : {L : Type 0} {v : L → Model} (d : Side) (a : Act) {w : World L} {s : Both Peer} → BothFollow model_of v w s → (g : GivenAt v d a w)
      → BothFollow model_of v (after_at v d a w g) (step_at rules d (act_of slots a) s)
  event_follows {v = v} d a {w} {s} f g = follow_alike (step_at-by_the_table v d a w g) (step_at-follows (omega arith) table d a (follow_alike refl f))

  pub run_follows : {L : Type 0} {v : L → Model} (es : List Event) {w : World L} {s : Both Peer} → BothFollow model_of v w s → (h : History v es w)
      → BothFollow model_of v (final v es w h) (run_of slots rules es s)
  run_follows [] f h = f
  run_follows (e ∷ es) f h = run_follows es (event_follows e.side e.act f h.0) h.1

  -- the timer's premise
  pub timer_waits-follow : {L : Type 0} {v : L → Model} (d : Side) (es : List Event) {w : World L} {s : Both Peer} → BothFollow model_of v w s → (h : History v es w)
      → TimerWaits v d es w h
      → PacketTimerWaits rules d (map (event_of slots) es) s
  timer_waits-follow d [] f h t = tt
  timer_waits-follow d (e ∷ es) {w} f h t =
      let before : WaitsAt d e.side e.act w = t.0 in
      (waits_at-follow d e.side e.act f before, timer_waits-follow d es (event_follows e.side e.act f h.0) h.1 t.1)

  pub timer_waits-back : {L : Type 0} {v : L → Model} (d : Side) (es : List Event) {w : World L} {s : Both Peer} → BothFollow model_of v w s → (h : History v es w)
      → PacketTimerWaits rules d (map (event_of slots) es) s
      → TimerWaits v d es w h
  timer_waits-back d [] f h t = tt
  timer_waits-back d (e ∷ es) f h t =
      (waits_at-back d e.side e.act f t.0, timer_waits-back d es (event_follows e.side e.act f h.0) h.1 t.1)
