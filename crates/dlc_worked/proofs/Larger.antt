-- A larger limit changes nothing where nothing is refused for want of a place or of room: what happens with so many places happens with more.
-- Assumes nothing.
use Prim.Native.Nat.{ℕ, ◌*◌, ◌<◌, ◌≤◌}
use native.Mathlib.Omega.{arith}
use mathlib.Core.Path.{◌≡◌, refl, ap, ◌∙◌}
use mathlib.Core.Bool.{Bool, true, ◌&&◌}
use mathlib.Core.List.{List, [], ◌∷◌, ◌++◌, map}
use lib.Dec.{leb, ltb}
use lib.ListN.{length}
use borrow.Author.Tests.{lt-leb, le-ltb, leb-true, ltb-true}
use Rattle.common.proofs.Bools.{and_both}
use Rattle.common.specs.Refusals.{Refusal, guarded}
use Rattle.dlc_packet.specs.Packet.{max_packet, kind_of}
use Rattle.dlc_table.specs.Model.{Model}
use Rattle.dlc_table.specs.Events.{Effect, refuse, start_step, timer_step, queued, packet_step, call_refusals, payload_refusals, start_of, timer_of, payload_of, arrival_of}
use Rattle.dlc.specs.Calls.{answer_of}
use Rattle.dlc_run.specs.Replies.{Octets, Packets, accepted_by}
use Rattle.window.specs.Sides.{Side, left, right, mirror, end_at}
use Rattle.dlc_pair.specs.World.{End, World}
use Rattle.dlc_pair.specs.History.{Act, payload, timer, start, arrival, loss, Event}
use Rattle.dlc_pair.specs.TableRun.{table_offered, table_reached, table_arrived, table_step, table_step_at, table_run}

-- events with this reply buffer in place of their own
abbrev relent : Octets → Act → Act
relent b (payload p before) = payload p b
relent b (timer before) = timer b
relent b (start before) = start b
relent b (arrival before) = arrival b
relent b (loss n) = loss n

abbrev pub lent : Octets → List Event → List Event
lent b es = map (λ (e : Event). record { side = e.side; act = relent b e.act }) es

-- ---- whether an event, and a list of them, is refused nothing for want of room or of a place
module _ (places : ℕ) where
  abbrev has_room : Octets → Bool
  has_room before = leb (places * max_packet) (length before)

  abbrev passes : Act → End Model → Bool
  passes (payload p before) e = has_room before && ltb (length e.link.queue) places
  passes (timer before) e = has_room before
  passes (start before) e = has_room before
  passes (arrival before) e = has_room before
  passes (loss n) e = true

  abbrev pub all_pass : List Event → World Model → Bool
  all_pass [] w = true
  all_pass (e ∷ es) w = passes e.act (end_at e.side w) && all_pass es (table_step_at places e.side e.act w)

-- ---- with more places, and a buffer that is long enough for them
module _ (places limit : ℕ) (more : places ≤ limit) (b : Octets) (h : limit * max_packet ≤ length b) where
  module _ (m : Model) (n : ℕ) (k : places * max_packet ≤ n) where
    -- both refuse the same: 27 by the link alone, and neither refuses by 26
    calls_alike : call_refusals limit m (length b) ≡ call_refusals places m n
    calls_alike = rw (le-ltb (length b) (limit * max_packet) h, le-ltb n (places * max_packet) k)

    start_alike : start_of limit m (length b) ≡ start_of places m n
    unfolding start_of
    start_alike = ap (λ (rs : List Refusal). guarded rs (refuse m) (start_step m m.state)) calls_alike

    timer_alike : timer_of limit m (length b) ≡ timer_of places m n
    unfolding timer_of
    timer_alike = ap (λ (rs : List Refusal). guarded rs (refuse m) (timer_step m m.state)) calls_alike

    arrival_alike : (q : Octets) → arrival_of limit m q (length b) ≡ arrival_of places m q n
    unfolding arrival_of
    arrival_alike q = ap (λ (rs : List Refusal). guarded rs (refuse m) (packet_step m (kind_of q))) calls_alike

    -- and where a place is free neither refuses by 22
    payload_alike : (p : Octets) → length m.queue < places → payload_of limit m p (length b) ≡ payload_of places m p n
    unfolding payload_of
    payload_alike p free =
        let full : payload_refusals limit m p ≡ payload_refusals places m p =
        rw (lt-leb limit (length m.queue) (omega (arith, more, free)), lt-leb places (length m.queue) free) in
        λ i. guarded (calls_alike i ++ full i) (refuse m) (queued m p)

  arrived_alike : (l : Packets) (before : Octets) → places * max_packet ≤ length before → (w : World Model) → table_arrived limit l b w ≡ table_arrived places l before w
  arrived_alike [] before k w = refl
  arrived_alike (q ∷ qs) before k w = ap (λ (d : Effect). table_reached d q qs w) (arrival_alike w.left.link (length before) k q)

  room : (before : Octets) → has_room places before ≡ true → places * max_packet ≤ length before
  room before t = leb-true (places * max_packet) (length before) t

  step_alike : (a : Act) (w : World Model) → passes places a w.left ≡ true → table_step limit (relent b a) w ≡ table_step places a w
  step_alike (payload p before) w t =
      let both = and_both (has_room places before) (ltb (length w.left.link.queue) places) t in
      ap (λ (d : Effect). table_offered d (accepted_by p (answer_of d)) w)
      (payload_alike w.left.link (length before) (room before both.0) p (ltb-true (length w.left.link.queue) places both.1))
  step_alike (timer before) w t =
      ap (λ (d : Effect). table_offered d [] w) (timer_alike w.left.link (length before) (room before t))
  step_alike (start before) w t =
      ap (λ (d : Effect). table_offered d [] w) (start_alike w.left.link (length before) (room before t))
  step_alike (arrival before) w t = arrived_alike w.right.line before (room before t) w
  step_alike (loss n) w t = refl

  step_at-alike : (d : Side) (a : Act) (w : World Model) → passes places a (end_at d w) ≡ true → table_step_at limit d (relent b a) w ≡ table_step_at places d a w
  step_at-alike left a w t = step_alike a w t
  step_at-alike right a w t = ap mirror (step_alike a (mirror w) t)

  pub run_alike : (es : List Event) (w : World Model) → all_pass places es w ≡ true → table_run limit (lent b es) w ≡ table_run places es w
  run_alike [] w t = refl
  run_alike (e ∷ es) w t =
      let both = and_both (passes places e.act (end_at e.side w)) (all_pass places es (table_step_at places e.side e.act w)) t in
      ap (table_run limit (lent b es)) (step_at-alike e.side e.act w both.0) ∙ run_alike es (table_step_at places e.side e.act w) both.1
