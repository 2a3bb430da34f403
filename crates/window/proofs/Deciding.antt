-- The timer's premise decided by computation, for worked runs. Assumes nothing.
use mathlib.Core.Bool.{Bool, true, ◌&&◌}
use mathlib.Core.List.{List, [], ◌∷◌}
use lib.Dec.{T, eqb, eqb→eq}
use Rattle.common.proofs.Bools.{and_left, and_right}
use Rattle.window.specs.Sides.{Side, left, right, Both, mirror}
use Rattle.window.specs.Packets.{count_data, count_dack}
use Rattle.window.specs.Ends.{Rules, End}
use Rattle.window.specs.Events.{Act, offer, timeout, receive, lose, Event, step_at, Waits, WaitsAt, TimerWaits}

abbrev waits : Act → Both End → Bool
waits (offer ok p) s = true
waits (timeout ok) s = eqb (count_data s.left.line) 0 && eqb (count_dack s.right.line) 0
waits (receive ok) s = true
waits (lose n) s = true

abbrev waits_at : Side → Side → Act → Both End → Bool
waits_at left left a s = waits a s
waits_at left right a s = true
waits_at right left a s = true
waits_at right right a s = waits a (mirror s)

abbrev pub timer_waits : Rules → Side → List Event → Both End → Bool
timer_waits r d [] s = true
timer_waits r d (e ∷ es) s = waits_at d e.side e.act s && timer_waits r d es (step_at r e.side e.act s)

waits_true : (a : Act) (s : Both End) → T (waits a s) → Waits a s
waits_true (offer ok p) s t = tt
waits_true (timeout ok) s t =
    let x = eqb (count_data s.left.line) 0 in
    let y = eqb (count_dack s.right.line) 0 in
    (eqb→eq (count_data s.left.line) 0 (and_left x y t), eqb→eq (count_dack s.right.line) 0 (and_right x y t))
waits_true (receive ok) s t = tt
waits_true (lose n) s t = tt

waits_at-true : (c d : Side) (a : Act) (s : Both End) → T (waits_at c d a s) → WaitsAt c d a s
waits_at-true left left a s t = waits_true a s t
waits_at-true left right a s t = tt
waits_at-true right left a s t = tt
waits_at-true right right a s t = waits_true a (mirror s) t

pub timer_waits-true : (r : Rules) (d : Side) (es : List Event) (s : Both End) → T (timer_waits r d es s) → TimerWaits r d es s
timer_waits-true r d [] s t = tt
timer_waits-true r d (e ∷ es) s t =
    let x = waits_at d e.side e.act s in
    let y = timer_waits r d es (step_at r e.side e.act s) in
    (waits_at-true d e.side e.act s (and_left x y t), timer_waits-true r d es _ (and_right x y t))
