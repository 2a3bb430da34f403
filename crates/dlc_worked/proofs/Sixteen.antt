-- Why sixteen slots are too many: the step table with sixteen places, by computation. docs/SIXTEEN.md tells the run. Assumes nothing.
--
-- InOrder holds of the table with every limit below the modulus (`in_order`, dlc_pair/proofs/Demand3), and with no other (`out_of_order`).
use Prim.Native.Nat.{ℕ, ◌-◌, ◌*◌, ◌%◌, ◌≤◌}
use native.Mathlib.Omega.{arith}
use mathlib.Core.Path.{◌≡◌, refl, ap, subst}
use mathlib.Core.Bool.{true}
use mathlib.Core.List.{[], ◌∷◌, ◌++◌, IsPrefix}
use lib.ListN.{length, replicate, length-append, length-replicate}
use Rattle.dlc_packet.specs.Numbers.{modulus, Edition, edition1, edition2}
use Rattle.dlc_packet.specs.Packet.{max_packet, dack_packet}
use Rattle.dlc_table.specs.declared.State.TheVariants.{Data, Wait}
use Rattle.dlc_table.specs.Answers.{done, no_entry, other_number}
use Rattle.dlc_table.specs.Model.{Model, rebuilt, opened}
use Rattle.dlc_table.specs.Events.{effect, refuse, timer_of, payload_of, arrival_of}
use Rattle.dlc.specs.Limits.{slots}
use Rattle.dlc_run.specs.Replies.{Octets}
use Rattle.dlc_pair.specs.World.{World}
use Rattle.dlc_pair.specs.History.{Drained}
use Rattle.dlc_pair.specs.TableRun.{table_run, open_ends, InOrder}
use Rattle.dlc_worked.proofs.Larger.{lent, all_pass, run_alike}
use Rattle.dlc_worked.specs.Script.{payloads_from}
use Rattle.dlc_worked.specs.Again.{too_many, buffer, filled, unanswered, again, hasty}

module _ (d : Edition) where
  -- ---- sixteen places, sixteen numbers
  -- all sixteen are delivered, and the right end stands as it did before the first: nothing tells it that DATA 0 would be a repeat
  pub receiver_as_at_the_start : (table_run too_many (filled too_many) (open_ends d d)).right.link ≡ opened d
  unfolding timer_of payload_of arrival_of
  receiver_as_at_the_start = refl

  -- the timer comes when none of its end's DATA and no DACK to it is on the line: it waits, as the bound asks
  pub timer_waits_lem : Drained (table_run too_many (unanswered too_many) (open_ends d d))
  unfolding timer_of payload_of arrival_of
  timer_waits_lem = (refl, refl)

  -- the run has 50 events, and no call of it is refused
  pub run_length : length (again too_many) ≡ 50
  run_length = refl

  pub nothing_refused : ((table_run too_many (again too_many) (open_ends d d)).left.answers ++ (table_run too_many (again too_many) (open_ends d d)).right.answers) ≡ replicate 34 done
  unfolding timer_of payload_of arrival_of
  nothing_refused = refl

  -- sixteen payloads are accepted; seventeen are delivered, the first a second time at the end
  pub sixteen_accepted : (table_run too_many (again too_many) (open_ends d d)).left.accepted ≡ payloads_from too_many 1
  unfolding timer_of payload_of arrival_of
  sixteen_accepted = refl

  pub seventeen_delivered : (table_run too_many (again too_many) (open_ends d d)).right.delivered ≡ payloads_from too_many 1 ++ payloads_from 1 1
  unfolding timer_of payload_of arrival_of
  seventeen_delivered = refl

  -- so demand 3's first part is false with sixteen places, and with more: no call of the run is refused for want of a place or of room
  every_call_passes : all_pass too_many (again too_many) (open_ends d d) ≡ true
  unfolding timer_of payload_of arrival_of
  every_call_passes = refl

  pub out_of_order : (limit : ℕ) → too_many ≤ limit → InOrder limit d d → ⊥
  out_of_order limit h c =
      let b : Octets = replicate (limit * max_packet) 0 in
      let long : limit * max_packet ≤ length b = omega (arith, length-replicate {A = ℕ} (limit * max_packet) 0) in
      let e = run_alike too_many limit h b long (again too_many) (open_ends d d) every_call_passes in
      let p = subst (λ (w : World Model). IsPrefix w.right.delivered w.left.accepted) e (c (lent b (again too_many))).0 in
      omega (arith, ap length p.1, length-append (table_run too_many (again too_many) (open_ends d d)).right.delivered p.0, ap length seventeen_delivered, ap length sixteen_accepted)

  -- with the timer called while the DACKs are on their way no packet need be lost: 34 events
  pub hasty-length : length (hasty too_many) ≡ 34
  hasty-length = refl

  pub hasty_delivered : (table_run too_many (hasty too_many) (open_ends d d)).right.delivered ≡ payloads_from too_many 1 ++ payloads_from 1 1
  unfolding timer_of payload_of arrival_of
  hasty_delivered = refl

  -- ---- the same run with the slots that there are: the right end expects 15, which no payload of the queue carries; the repeat is answered 25 and not delivered
  pub fifteen_expected : (table_run slots (filled slots) (open_ends d d)).right.link.expected ≡ slots
  unfolding timer_of payload_of arrival_of
  fifteen_expected = refl

  pub fifteen_delivered : (table_run slots (again slots) (open_ends d d)).right.delivered ≡ payloads_from slots 1
  unfolding timer_of payload_of arrival_of
  fifteen_delivered = refl

  pub repeat_answered : (table_run slots (again slots) (open_ends d d)).right.answers ≡ replicate slots done ++ (other_number ∷ [])
  unfolding timer_of payload_of arrival_of
  repeat_answered = refl

-- ---- the sending end's half of it: with sixteen queued the DACK of all sixteen is DACK 0, whose distance is 0, and answers 24; with the slots that there
-- are the DACK of all empties the queue. Under edition 2 they are DACK 15 and DACK 14
abbrev holding : Edition → ℕ → Model
holding d n = rebuilt (opened d) Wait (payloads_from n 1) 0 0

abbrev dack_of_all : Edition → ℕ → ℕ
dack_of_all edition1 n = n % modulus
dack_of_all edition2 n = n - 1

pub dack_of_all_lem : (d : Edition) → (arrival_of too_many (holding d too_many) (dack_packet (dack_of_all d too_many)) (length buffer) ≡ refuse (holding d too_many) no_entry)
    × (arrival_of slots (holding d slots) (dack_packet (dack_of_all d slots)) (length buffer) ≡ effect done [] (rebuilt (opened d) Data [] slots 0))
unfolding arrival_of
dack_of_all_lem edition1 = (refl, refl)
dack_of_all_lem edition2 = (refl, refl)
