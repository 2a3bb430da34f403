-- Each event is followed by the packet system, at two ends whose calls do what the step table says. Assumes nothing.
use Prim.Native.Nat.{ℕ, zero, suc, ◌+◌, ◌≤◌}
use native.Mathlib.Omega.{arith}
use mathlib.Core.Path.{◌≡◌, refl, sym, ap, subst, ◌∙◌}
use mathlib.Core.Bool.{Bool, true, false, cond, not, ◌&&◌}
use mathlib.Core.Option
use mathlib.Core.Option.{Option, none, some, none-ne-some, some-injective}
use mathlib.Core.List.{List, [], ◌∷◌, map}
use lib.ListN.{length, get_elem?}
use lib.Dec.{ltb, eqb}
use Rattle.dlc_table.specs.Answers.{done}
use Rattle.dlc_table.specs.Model.{Model}
use Rattle.dlc_table.specs.Events.{Effect, arrival_of}
use Rattle.dlc_table.specs.Runs.{Event as Call, payload as payload_call, timer as timer_call, start as start_call, arrival as arrival_call, effect_of}
use Rattle.dlc_answer.specs.declared.Answer.{Answer}
use Rattle.dlc.specs.Limits.{slots}
use Rattle.dlc_answer.specs.Delivered.{delivered_part}
use Rattle.dlc.specs.Calls.{answer_of}
use Rattle.dlc_run.specs.Replies.{Octets, Packets, is_data, is_dack, accepted_by, delivered_by}
use Rattle.dlc_run.proofs.Fitting.{effect_fits}
use Rattle.window.specs.Sides.{Side, left, right, Both, erase_at}
use Rattle.window.specs.Packets.{Packet, data_pdu, dack_pdu}
use Rattle.window.specs.Ends.{Rules, End as Peer, accept, send_all}
use Rattle.window.specs.Events.{Act as PacketAct, offer, timeout, receive, lose, lose_at, arrive, step, step_at}
use Rattle.window.proofs.InFlight.{All, all-erase_at, map-erase_at}
use Rattle.window.proofs.Marks.{get-map}
use Rattle.dlc_pair.specs.World.{one, World}
use Rattle.dlc_pair.specs.History.{Act, payload, timer, start, arrival, loss, lost_by, lost_at}
use Rattle.dlc_pair.specs.TableRun.{table_called, table_offered, table_reached, table_arrived, table_step, table_step_at}
use Rattle.dlc_pair.proofs.Codec.{encode, Sound, data_bit, dack_bit, is_data-encode, is_dack-encode}
use Rattle.dlc_pair.proofs.Relation.{Follows, BothFollow, follow_mirror, relined_peer, follows_relined, same}
use Rattle.dlc_pair.proofs.OneCall.{Becomes, follows_called}
use Rattle.dlc_pair.proofs.Simulates.{too_short, passes, delivered_when, lost_when, offered, timed_out, reached, Simulates}

-- the packet system's event; the Bool says that the call is not refused for what is lent to it. `start` changes nothing at an open link,
-- and is an offer that is refused
abbrev pub act_of : ℕ → Act → PacketAct
act_of limit (payload p before) = offer (passes limit p before) p
act_of limit (timer before) = timeout (not (too_short limit before))
act_of limit (start before) = offer false []
act_of limit (arrival before) = receive (not (too_short limit before))
act_of limit (loss n) = lose n

-- ---- the packet system's step at the left end alone
choice : (t : Bool) (b : Peer) (s : Both Peer) → cond t (record { left = b; right = s.right }) s ≡ record { left = cond t b s.left; right = s.right }
choice true b s = refl
choice false b s = refl

module _ (rules : Rules) (ok : Bool) where
  step_offered : (p : Octets) (s : Both Peer) → step rules (offer ok p) s ≡ record { left = offered rules ok p s.left; right = s.right }
  step_offered p s = choice (ok && ltb (length s.left.sender.queue) rules.window) (accept rules p s.left) s

  step-timed_out : (s : Both Peer) → step rules (timeout ok) s ≡ record { left = timed_out rules ok s.left; right = s.right }
  step-timed_out s = choice (ok && ltb 0 (length s.left.sender.queue)) (send_all rules s.left) s

-- a refused DATA counts for the right end, which sent it
arrive_reached : (rules : Rules) (short : Bool) (k : Packet) (ks : List Packet) (s : Both Peer)
    → arrive rules (not short) (k ∷ ks) s
    ≡ record {
      left = reached rules (not short) k s.left;
      right = relined_peer ks (cond (data_bit k && short) (suc s.right.sender.lost) s.right.sender.lost) s.right;
    }
arrive_reached rules true (data_pdu x p) ks s = refl
arrive_reached rules false (data_pdu x p) ks s = refl
arrive_reached rules true (dack_pdu x) ks s = refl
arrive_reached rules false (dack_pdu x) ks s = refl

one_more : (t : Bool) (n : ℕ) → cond t (suc n) n ≡ n + one t
one_more true n = omega arith
one_more false n = omega arith

sound_at : (n : ℕ) (ks : List Packet) (k : Packet) → All Sound ks → get_elem? ks n ≡ some k → Sound k
sound_at n [] k h e = absurd (none-ne-some k e)
sound_at zero (j ∷ ks) k h e = subst Sound (some-injective j k e) h.0
sound_at (suc n) (j ∷ ks) k h e = sound_at n ks k h.1 e

module _ {limit : ℕ} (few : limit ≤ slots) {rules : Rules} {model_of : Peer → Model} (table : Simulates limit rules model_of) where
  module _ {w : World Model} {s : Both Peer} (f : BothFollow model_of same w s) where
    -- ---- a call that brings no packet: the left end comes to b, and accepts what its answer says
    call_follows : (e : Call) (accepted : Answer → Packets) {b : Peer}
        → Becomes model_of (effect_of limit e (model_of s.left)) s.left b (accepted (answer_of (effect_of limit e (model_of s.left)))) [] 0
        → BothFollow model_of same (table_offered (effect_of limit e w.left.link) (accepted (answer_of (effect_of limit e w.left.link))) w)
        (record { left = b; right = s.right })
    call_follows e accepted {b} c = record {
      left = subst
          (λ (m : Model). Follows model_of same (table_called (effect_of limit e m) (accepted (answer_of (effect_of limit e m))) [] 0 w.left) b)
          (sym f.left.model)
          (follows_called f.left c (effect_fits limit few e (model_of s.left) f.left.fits));
      right = f.right;
    }

    -- ---- an arrival, by the front of the right end's line
    front_follows : (before : Octets) (ks : List Packet) → All Sound ks
        → BothFollow model_of same (table_arrived limit (map encode ks) before w) (arrive rules (not (too_short limit before)) ks s)
    front_follows before [] h = f
    front_follows before (k ∷ ks) h = subst
        (λ (m : Model). BothFollow model_of same (front m) (arrive rules (not (too_short limit before)) (k ∷ ks) s))
        (sym f.left.model)
        (subst (BothFollow model_of same (front (model_of s.left))) (sym (arrive_reached rules (too_short limit before) k ks s))
        (record {
          left = follows_called f.left
              (subst (λ (t : Packets). Becomes model_of d s.left b [] t (lost_by (is_dack (encode k)) (answer_of d))) (sym up)
              (subst (Becomes model_of d s.left b [] (delivered_when k d)) (sym dack) (table.arrival s.left f.left.fits k h.0 before)))
              (effect_fits limit few (arrival_call (encode k) before) (model_of s.left) f.left.fits);
          right = follows_relined f.right (map encode ks) ks _ (cond (data_bit k && too_short limit before) (suc n) n) (table.relined ks _ s.right) refl h.1
              (one_more (data_bit k && too_short limit before) n ∙ ap (λ (t : ℕ). n + t) (sym lost));
        }))
      where
        front : Model → World Model
        front m = table_reached (arrival_of limit m (encode k) (length before)) (encode k) (map encode ks) w

        d : Effect
        d = arrival_of limit (model_of s.left) (encode k) (length before)

        b : Peer
        b = reached rules (not (too_short limit before)) k s.left

        n : ℕ
        n = s.right.sender.lost

        up : delivered_by (encode k) (answer_of d) ≡ delivered_when k d
        up = ap (λ (t : Bool). cond (t && eqb d.code done) (delivered_part d.delivered (encode k) ∷ []) []) (is_data-encode k h.0)

        dack : lost_by (is_dack (encode k)) (answer_of d) ≡ lost_when (dack_bit k) d
        dack = ap (λ (t : Bool). lost_when t d) (is_dack-encode k h.0)

        lost : lost_by (is_data (encode k)) (answer_of d) ≡ one (data_bit k && too_short limit before)
        lost = λ i. one (is_data-encode k h.0 i && table.refused s.left k h.0 before i)

    -- ---- a loss
    module _ (n : ℕ) where
      lost_follows : (k : Packet) → Sound k → (i j : ℕ) → i ≡ s.left.sender.lost + one (data_bit k) → j ≡ s.right.sender.lost + one (dack_bit k)
          → BothFollow model_of same (lost_at n (some (encode k)) w)
          (record { left = relined_peer (erase_at n s.left.line) i s.left; right = relined_peer s.right.line j s.right })
      lost_follows k h i j ei ej = record {
        left = follows_relined f.left (erase_at n w.left.line) (erase_at n s.left.line) _ i (table.relined _ i s.left)
            (ap (erase_at n) f.left.line ∙ sym (map-erase_at encode n s.left.line))
            (all-erase_at Sound n s.left.line f.left.sound)
            (ei ∙ ap (λ (b : Bool). s.left.sender.lost + one b) (sym (is_data-encode k h)));
        right = follows_relined f.right w.right.line s.right.line _ j (table.relined _ j s.right) f.right.line f.right.sound
            (ej ∙ ap (λ (b : Bool). s.right.sender.lost + one b) (sym (is_dack-encode k h)));
      }

      lose_follows : (k : Option Packet) → get_elem? s.left.line n ≡ k → BothFollow model_of same (lost_at n (Option.map encode k) w) (lose_at n k s)
      lose_follows none e = f
      lose_follows (some (data_pdu x p)) e =
          lost_follows (data_pdu x p) (sound_at n s.left.line (data_pdu x p) f.left.sound e)
          (suc s.left.sender.lost) s.right.sender.lost (omega arith) (omega arith)
      lose_follows (some (dack_pdu x)) e =
          lost_follows (dack_pdu x) (sound_at n s.left.line (dack_pdu x) f.left.sound e)
          s.left.sender.lost (suc s.right.sender.lost) (omega arith) (omega arith)

  -- ---- an event at the left end
  step_follows : (a : Act) {w : World Model} {s : Both Peer} → BothFollow model_of same w s → BothFollow model_of same (table_step limit a w) (step rules (act_of limit a) s)
  step_follows (payload p before) {w} {s} f =
      subst (BothFollow model_of same (table_step limit (payload p before) w)) (sym (step_offered rules (passes limit p before) p s))
      (call_follows f (payload_call p before) (accepted_by p) (table.payload s.left p before))
  step_follows (timer before) {w} {s} f =
      subst (BothFollow model_of same (table_step limit (timer before) w)) (sym (step-timed_out rules (not (too_short limit before)) s))
      (call_follows f (timer_call before) (λ _. []) (table.timer s.left f.left.fits before))
  step_follows (start before) {w} {s} f = call_follows f (start_call before) (λ _. []) (table.start s.left before)
  step_follows (arrival before) {w} {s} f =
      subst (λ (l : Packets). BothFollow model_of same (table_arrived limit l before w) (arrive rules (not (too_short limit before)) s.right.line s))
      (sym f.right.line)
      (front_follows f before s.right.line f.right.sound)
  step_follows (loss n) {w} {s} f =
      subst (λ (q : Option Octets). BothFollow model_of same (lost_at n q w) (lose_at n (get_elem? s.left.line n) s))
      (sym (ap (λ (l : Packets). get_elem? l n) f.left.line ∙ get-map encode s.left.line n))
      (lose_follows f n (get_elem? s.left.line n) refl)

  pub step_at-follows : (d : Side) (a : Act) {w : World Model} {s : Both Peer} → BothFollow model_of same w s
      → BothFollow model_of same (table_step_at limit d a w) (step_at rules d (act_of limit a) s)
  step_at-follows left a f = step_follows a f
  step_at-follows right a f = follow_mirror (step_follows a (follow_mirror f))
