-- Why both ends use the same edition: runs of the step table from two open ends of different ones, by computation, and what they make of demand 3.
-- docs/EDITIONS.md tells them. Assumes nothing.
--
--   demand_three_broken    four events after which demand 3 is false, whichever end has which edition
--   order_broken           its first part by itself, of the step table: `in_order` (dlc_pair/proofs/Demand3) is for one edition
use Prim.Native.Nat.{ℕ, ◌+◌}
use native.Mathlib.Omega.{arith}
use mathlib.Core.Path.{◌≡◌, refl, sym, ap, subst, ◌∙◌}
use mathlib.Core.List.{List, [], ◌∷◌, ◌++◌, map, IsPrefix}
use lib.ListN.{length, replicate, get_or}
use Rattle.dlc_packet.specs.Numbers.{Edition, edition1, edition2}
use Rattle.dlc_table.specs.Answers.{done, no_entry, other_number}
use Rattle.dlc_table.specs.Model.{Model, opened}
use Rattle.dlc_table.specs.Events.{timer_of, payload_of, arrival_of}
use Rattle.dlc.specs.declared.Link.{Link}
use Rattle.dlc.specs.Limits.{slots}
use Rattle.dlc.specs.View.{view}
use Rattle.dlc_run.specs.Replies.{Packets}
use Rattle.window.specs.Sides.{Side, left, right, opposite, mirror}
use Rattle.dlc_pair.specs.World.{World, data_sent, initial}
use Rattle.dlc_pair.specs.History.{Act, Event, History, final, Drained, TimerWaits}
use Rattle.dlc_pair.specs.Demand3.{Demand3}
use Rattle.dlc_pair.specs.TableRun.{table_step_at, table_run, open_ends, InOrder}
use Rattle.dlc_pair.proofs.Relation.{seen}
use Rattle.dlc_pair.proofs.ByTheTable.{final_by_the_table}
use Rattle.dlc_pair.proofs.Links.{open_link, history_exists_link}
use Rattle.dlc_worked.specs.Script.{payloads_from}
use Rattle.dlc_worked.specs.Mixed.{other, answered, unsettled, cleared, overtaken, round}

-- ---- what is said of the runs
-- both links and both lines are the same
pub record SameLinks (z w : World Model) : Type 0 where
  pub left : z.left.link ≡ w.left.link
  pub right : z.right.link ≡ w.right.link
  pub lines : (z.left.line ≡ w.left.line) × (z.right.line ≡ w.right.line)

-- DATA sent by the left end, payloads that it accepted, its packets lost
pub record Sent (w : World Model) (n k j : ℕ) : Type 0 where
  pub sent : data_sent w.left ≡ n
  pub accepted : length w.left.accepted ≡ k
  pub lost : w.left.lost ≡ j

-- two payloads were accepted at the left end; the second waits, the first is nowhere
pub record Gone (w : World Model) : Type 0 where
  pub accepted : w.left.accepted ≡ payloads_from 2 1
  pub queue : w.left.link.queue ≡ payloads_from 1 2
  pub delivered : w.right.delivered ≡ []
  pub lines : (w.left.line ≡ []) × (w.right.line ≡ [])
  pub left_answers : w.left.answers ≡ replicate 3 done
  pub right_answers : w.right.answers ≡ other_number ∷ []

-- of all that the left end accepted only the last was delivered; no call of it was refused
pub record Overtaken (w : World Model) : Type 0 where
  pub accepted : w.left.accepted ≡ payloads_from slots 1 ++ payloads_from 2 (slots + 1)
  pub delivered : w.right.delivered ≡ payloads_from 1 (slots + 2)
  pub left_answers : w.left.answers ≡ replicate slots done ++ (done ∷ done ∷ done ∷ [])
  pub right_answers : w.right.answers ≡ replicate slots other_number ++ (done ∷ [])

-- ---- a payload that is delivered, and never acknowledged
-- all has arrived and nothing was lost, and the payload is still queued: its DACK was answered 24
pub record Kept (w : World Model) : Type 0 where
  pub delivered : w.right.delivered ≡ payloads_from 1 1
  pub queue : w.left.link.queue ≡ payloads_from 1 1
  pub answers : w.left.answers ≡ done ∷ no_entry ∷ []
  pub drained : Drained w
  pub lost : w.left.lost ≡ 0

-- so it is after three events, whichever end has which edition
pub delivered_and_kept : (d : Edition) → Kept (table_run slots answered (open_ends d (other d)))
unfolding timer_of payload_of arrival_of
delivered_and_kept edition1 = record { delivered = refl; queue = refl; answers = refl; drained = (refl, refl); lost = refl }
delivered_and_kept edition2 = record { delivered = refl; queue = refl; answers = refl; drained = (refl, refl); lost = refl }

-- and it stays so: after the timer, DATA there and DACK back both links are as they were
pub kept_for_ever : (d : Edition) → SameLinks (table_run slots round (table_run slots answered (open_ends d (other d)))) (table_run slots answered (open_ends d (other d)))
unfolding timer_of payload_of arrival_of
kept_for_ever edition1 = record { left = refl; right = refl; lines = (refl, refl) }
kept_for_ever edition2 = record { left = refl; right = refl; lines = (refl, refl) }

-- with the fourth event two DATA are sent for one payload, and none was lost
pub run_length : length unsettled ≡ 4
run_length = refl

pub sent_again : (d : Edition) → Sent (table_run slots unsettled (open_ends d (other d))) 2 1 0
unfolding timer_of payload_of arrival_of
sent_again edition1 = record { sent = refl; accepted = refl; lost = refl }
sent_again edition2 = record { sent = refl; accepted = refl; lost = refl }

-- ---- so demand 3 is false of these events, whatever the links' calls gave back: its timer waited, and the bound is passed
module _ {L : Type 0} (v : L → Model) (l l' : L) (d : Edition) (e : v l ≡ opened d) (e' : v l' ≡ opened (other d)) where
  -- what is seen of a history's last world is the table's run
  run_of : (es : List Event) (h : History v es (initial l l')) → seen v (final v es (initial l l') h) ≡ table_run slots es (open_ends d (other d))
  run_of es h = final_by_the_table v es (initial l l') h ∙ (λ i. table_run slots es (initial (e i) (e' i)))

  pub timer_waited : (h : History v unsettled (initial l l')) → TimerWaits v left unsettled (initial l l') h
  timer_waited h =
      let three : History v answered (initial l l') = (h.0, (h.1.0, (h.1.1.0, tt))) in
      (tt, (tt, (tt, (subst Drained (sym (run_of answered three)) (delivered_and_kept d).drained, tt))))

  pub demand_three_broken : (h : History v unsettled (initial l l')) → Demand3 v unsettled (initial l l') h → ⊥
  demand_three_broken h c =
      let s = subst (λ (w : World Model). Sent w 2 1 0) (sym (run_of unsettled h)) (sent_again d) in
      omega (arith, c.left_to_right.bound (timer_waited h), s.sent, s.accepted, s.lost)

-- there are such links, and such histories of them: the premise of equal editions can't be left out
pub premise_needed : ((l l' : Link) (d d' : Edition) → view l ≡ opened d → view l' ≡ opened d' → (es : List Event) (h : History view es (initial l l'))
    → Demand3 view es (initial l l') h)
    → ⊥
premise_needed c =
    let l = open_link edition1 in
    let l' = open_link edition2 in
    let h = history_exists_link edition1 edition2 l.0 l'.0 l.1 l'.1 unsettled in
    demand_three_broken view l.0 l'.0 edition1 l.1 l'.1 h (c l.0 l'.0 edition1 edition2 l.1 l'.1 unsettled h)

-- ---- the sender has edition 2: a payload is taken for delivered that never was
-- the first of two payloads is neither queued nor delivered nor on a line: DACK 0, which says that 0 is expected, was read as "through 0"
pub taken_for_delivered : Gone (table_run slots cleared (open_ends edition2 edition1))
unfolding timer_of payload_of arrival_of
taken_for_delivered = record { accepted = refl; queue = refl; delivered = refl; lines = (refl, refl); left_answers = refl; right_answers = refl }

pub cleared-length : length cleared ≡ 5
cleared-length = refl

-- and it stays so
pub gone_for_ever : SameLinks (table_run slots round (table_run slots cleared (open_ends edition2 edition1))) (table_run slots cleared (open_ends edition2 edition1))
unfolding timer_of payload_of arrival_of
gone_for_ever = record { left = refl; right = refl; lines = (refl, refl) }

-- ---- the sender has edition 1: a payload is delivered in the place of another
-- DACK 15, which says that nothing has come yet, was read as "all fifteen" by a full queue; the seventeenth payload has the number that is expected
pub delivered_out_of_turn : Overtaken (table_run slots overtaken (open_ends edition1 edition2))
unfolding timer_of payload_of arrival_of
delivered_out_of_turn = record { accepted = refl; delivered = refl; left_answers = refl; right_answers = refl }

pub overtaken-length : length overtaken ≡ 35
overtaken-length = refl

-- so the order is broken in this direction, of which the events in the mirror make the other
abbrev mirrored : List Event → List Event
mirrored es = map (λ (e : Event). record { side = opposite e.side; act = e.act }) es

step_at-mirrored : (d : Side) (a : Act) (w : World Model) → table_step_at slots (opposite d) a (mirror w) ≡ mirror (table_step_at slots d a w)
step_at-mirrored left a w = refl
step_at-mirrored right a w = refl

run_mirrored : (es : List Event) (w : World Model) → table_run slots (mirrored es) (mirror w) ≡ mirror (table_run slots es w)
run_mirrored [] w = refl
run_mirrored (e ∷ es) w = ap (table_run slots (mirrored es)) (step_at-mirrored e.side e.act w) ∙ run_mirrored es (table_step_at slots e.side e.act w)

-- the first octet of the first payload
abbrev first_octet : Packets → ℕ
first_octet [] = 0
first_octet (p ∷ ps) = get_or p 0 0

no_prefix : (w : World Model) → Overtaken w → IsPrefix w.right.delivered w.left.accepted → ⊥
no_prefix w o p =
    let e : first_octet (payloads_from 1 (slots + 2) ++ p.0) ≡ first_octet (payloads_from slots 1 ++ payloads_from 2 (slots + 1)) =
    ap first_octet (ap (λ (ps : Packets). ps ++ p.0) (sym o.delivered) ∙ p.1 ∙ o.accepted) in
    omega (arith, e)

pub order_broken : (d : Edition) → InOrder slots d (other d) → ⊥
order_broken edition1 c = no_prefix _ delivered_out_of_turn (c overtaken).0
order_broken edition2 c = no_prefix _ delivered_out_of_turn
    (subst (λ (w : World Model). IsPrefix w.left.delivered w.right.accepted) (run_mirrored overtaken (open_ends edition1 edition2)) (c (mirrored overtaken)).1)
