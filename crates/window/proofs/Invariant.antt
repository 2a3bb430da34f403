-- The invariant of two ends: a flow each way, and marks beside each line. Kept by an accepted payload, by "send all" and by a loss; arrivals
-- are in Receive. Assumes nothing.
use Prim.Native.Nat.{ℕ, suc, ◌%◌, ◌<◌}
use mathlib.Core.Path.{◌≡◌, refl, sym, ap, subst, ◌∙◌}
use mathlib.Core.Bool.{Bool, true, false, not}
use mathlib.Core.Option
use mathlib.Core.Option.{Option, none, some}
use mathlib.Core.List.{List, [], ◌∷◌, ◌++◌, map, map-append, append-nil}
use native.Mathlib.Omega.{arith}
use lib.Dec.{T}
use lib.ListN.{length, get_elem?}
use Rattle.window.specs.Sides.{Both, mirror, erase_at}
use Rattle.window.specs.Packets.{modulus, advance, Payload, Payloads, Packet, data_pdu, count_data, count_dack, numbered}
use Rattle.window.specs.Ends.{Rules, Sender, End, first_sent, accept_with, accept, send_all}
use Rattle.window.specs.Events.{lose_at, Drained}
use Rattle.window.proofs.InFlight.{InFlight, sent_next, map-erase_at, batch}
use Rattle.window.proofs.Marks.{Mark, data_mark, dack_mark, data_of, dacks_of, data_marks, data_of_sent, dacks_of-sent, packet_of, numbered_batch, no_data_lem, no_dack_lem, count_numbered, get-map, Taken, taken_at}
use Rattle.window.proofs.Flow.{Assumed, unsure, Flow, flow_weaken, flow-length, flow_accept, flow_accept_once, flow_send_all, flow_idle, flow_lose_data, flow_lose_dack}

-- what the proof knows of an end beside its state: marks for the packets on its line, the payloads that left its queue, and how many payloads it
-- has sent at least once
pub record Ghost : Type 0 where
  pub marks : List Mark
  pub acked : Payloads
  pub reached : ℕ

-- with other marks
abbrev pub marked : List Mark → Ghost → Ghost
marked g u = record { marks = g; acked = u.acked; reached = u.reached }

module _ (r : Rules) where
  abbrev pub packets_of : List Mark → List Packet
  packets_of g = map (packet_of r.dack_number) g

  -- from one end to the other
  abbrev pub FlowTo : Assumed → Ghost → End → End → List InFlight → List ℕ → Type 0
  FlowTo a u e e' flight dacks = Flow r a u.acked u.reached e.sender e'.receiver flight dacks

  -- a and b: what is assumed of the left end as a sender, and of the right end
  pub record Invariant (a b : Assumed) (s : Both End) : Type 0 where
    pub left : Ghost
    pub right : Ghost
    pub left_line : s.left.line ≡ packets_of left.marks
    pub right_line : s.right.line ≡ packets_of right.marks
    pub left_flow : FlowTo a left s.left s.right (data_of left.marks) (dacks_of right.marks)
    pub right_flow : FlowTo b right s.right s.left (data_of right.marks) (dacks_of left.marks)

  pub invariant_mirror : {a b : Assumed} {s : Both End} → Invariant a b s → Invariant b a (mirror s)
  invariant_mirror v = record {
    left = v.right;
    right = v.left;
    left_line = v.right_line;
    right_line = v.left_line;
    left_flow = v.right_flow;
    right_flow = v.left_flow;
  }

  pub invariant_weaken : {a b a' b' : Assumed} {s : Both End}
      → (a'.waited → a.waited)
      → (a'.intact → a.intact)
      → (b'.waited → b.waited)
      → (b'.intact → b.intact)
      → Invariant a b s
      → Invariant a' b' s
  invariant_weaken f g f' g' v = record {
    left = v.left;
    right = v.right;
    left_line = v.left_line;
    right_line = v.right_line;
    left_flow = flow_weaken r f g v.left_flow;
    right_flow = flow_weaken r f' g' v.right_flow;
  }

  -- a packet was lost, on whichever line
  pub invariant_unsure : {a b : Assumed} {s : Both End} → Invariant a b s → Invariant (unsure a) (unsure b) s
  invariant_unsure v = invariant_weaken (λ u. u) (λ u. absurd u) (λ u. u) (λ u. absurd u) v

  module _ {a b : Assumed} {s : Both End} (v : Invariant a b s) where
    -- a drained line has no marks of this direction
    pub drained_marks : Drained s → (data_of v.left.marks ≡ []) × (dacks_of v.right.marks ≡ [])
    drained_marks u = (
      no_data_lem r.dack_number v.left.marks (ap count_data (sym v.left_line) ∙ u.0),
      no_dack_lem r.dack_number v.right.marks (ap count_dack (sym v.right_line) ∙ u.1),
    )

    -- the left end's line with more DATA on it
    line_sent : (ks : List Packet) (fs : List InFlight) → ks ≡ packets_of (data_marks fs) → s.left.line ++ ks ≡ packets_of (v.left.marks ++ data_marks fs)
    line_sent ks fs e = (λ i. v.left_line i ++ e i) ∙ sym (map-append (packet_of r.dack_number) v.left.marks (data_marks fs))

  module _ {a b : Assumed} (s : Both End) (v : Invariant a b s) where
    abbrev sender : Sender
    sender = s.left.sender

    -- ---- a payload is accepted
    accept_later : (p : Payload) → T (not r.at_once) → length sender.queue < r.window
        → Invariant (unsure a) b (record { left = accept_with [] p s.left; right = s.right })
    accept_later p t h = record {
      left = v.left;
      right = v.right;
      left_line = append-nil s.left.line ∙ v.left_line;
      right_line = v.right_line;
      left_flow = flow_accept r p t h v.left_flow;
      right_flow = v.right_flow;
    }

    -- and sent at once, with its slot's number
    accept_once : (p : Payload) → T r.at_once → length sender.queue < r.window
        → Invariant (unsure a) b (record { left = accept_with (data_pdu (advance sender.base (length sender.queue)) p ∷ []) p s.left; right = s.right })
    accept_once p t h = record {
      left = record { marks = v.left.marks ++ data_marks (f ∷ []); acked = v.left.acked; reached = suc (length sender.accepted) };
      right = v.right;
      left_line = line_sent v (data_pdu (advance sender.base (length sender.queue)) p ∷ []) (f ∷ []) (ap (λ (x : ℕ). data_pdu x p ∷ []) number);
      right_line = v.right_line;
      left_flow = rw (data_of_sent v.left.marks (f ∷ [])) (flow_weaken r (λ u. u) (λ u. absurd u) (flow_accept_once r p t h v.left_flow));
      right_flow = rw (dacks_of-sent v.left.marks (f ∷ [])) v.right_flow;
    }
      where
        f : InFlight
        f = sent_next (length sender.accepted) p

        number : advance sender.base (length sender.queue) ≡ length sender.accepted % modulus
        number = omega (arith, v.left_flow.placed.residue, flow-length r v.left_flow)

    accept_by : (once : Bool) (p : Payload) → once ≡ r.at_once → length sender.queue < r.window
        → Invariant (unsure a) b (record { left = accept_with (first_sent once (advance sender.base (length sender.queue)) p) p s.left; right = s.right })
    accept_by true p e h = accept_once p (subst T e tt) h
    accept_by false p e h = accept_later p (subst (λ (x : Bool). T (not x)) e tt) h

    pub invariant_accept : (p : Payload) → length sender.queue < r.window
        → Invariant (unsure a) b (record { left = accept r p s.left; right = s.right })
    invariant_accept p h = accept_by r.at_once p refl h

    -- ---- "send all"; from then on it is asked that the line was drained
    pub invariant_send_all : Invariant (record { waited = a.waited × Drained s; intact = Drained s }) b (record { left = send_all r s.left; right = s.right })
    invariant_send_all = record {
      left = record { marks = v.left.marks ++ data_marks sent; acked = v.left.acked; reached = length sender.accepted };
      right = v.right;
      left_line = line_sent v (numbered sender.base sender.queue) sent
          (numbered_batch r.dack_number (length sender.accepted) (length v.left.acked) sender.base sender.queue v.left_flow.placed.residue);
      right_line = v.right_line;
      left_flow = rw (data_of_sent v.left.marks sent)
          (flow_weaken r (λ u. (u.0, (drained_marks v u.1).0, (drained_marks v u.1).1)) (drained_marks v)
          (flow_send_all r (count_data (numbered sender.base sender.queue)) (count_numbered sender.base sender.queue) v.left_flow));
      right_flow = rw (dacks_of-sent v.left.marks sent) v.right_flow;
    }
      where
        sent : List InFlight
        sent = batch (length sender.accepted) (length v.left.acked) sender.queue

    -- ---- nothing is queued and nothing is on the line
    pub invariant_idle : sender.queue ≡ [] → Drained s → Invariant (record { waited = a.waited; intact = Unit {0} }) b s
    invariant_idle e u = record {
      left = v.left;
      right = v.right;
      left_line = v.left_line;
      right_line = v.right_line;
      left_flow = flow_idle r e (drained_marks v u).0 (drained_marks v u).1 v.left_flow;
      right_flow = v.right_flow;
    }

    -- ---- a loss
    shorter : (n : ℕ) → erase_at n s.left.line ≡ packets_of (erase_at n v.left.marks)
    shorter n = ap (erase_at n) v.left_line ∙ sym (map-erase_at (packet_of r.dack_number) n v.left.marks)

    lose_by : (n : ℕ) (o : Option Mark) → Taken n v.left.marks o → Invariant (unsure a) (unsure b) (lose_at n (Option.map (packet_of r.dack_number) o) s)
    lose_by n none t = invariant_unsure v
    lose_by n (some (data_mark f)) t = record {
      left = marked (erase_at n v.left.marks) v.left;
      right = v.right;
      left_line = shorter n;
      right_line = v.right_line;
      left_flow = rw t.1 (flow_lose_data r t.0 v.left_flow);
      right_flow = rw t.2 (flow_weaken r (λ u. u) (λ u. absurd u) v.right_flow);
    }
    lose_by n (some (dack_mark k)) t = record {
      left = marked (erase_at n v.left.marks) v.left;
      right = v.right;
      left_line = shorter n;
      right_line = v.right_line;
      left_flow = rw t.1 (flow_weaken r (λ u. u) (λ u. absurd u) v.left_flow);
      right_flow = rw t.2 (flow_lose_dack r t.0 v.right_flow);
    }

    pub invariant_lose : (n : ℕ) → Invariant (unsure a) (unsure b) (lose_at n (get_elem? s.left.line n) s)
    invariant_lose n =
        subst (λ (o : Option Packet). Invariant (unsure a) (unsure b) (lose_at n o s))
        (sym (ap (λ (l : List Packet). get_elem? l n) v.left_line ∙ get-map (packet_of r.dack_number) v.left.marks n))
        (lose_by n (get_elem? v.left.marks n) (taken_at n v.left.marks))
