-- The invariant is kept by an arrival: the front packet of the right end's line, by its mark. Assumes nothing.
use Prim.Native.Nat.{ℕ, ◌+◌, ◌-◌, ◌%◌, ◌≤◌, ◌<◌}
use mathlib.Core.Path.{◌≡◌, refl, sym, ap, subst, ◌∙◌}
use mathlib.Core.Bool.{Bool, true, false, ◌&&◌}
use mathlib.Core.List.{List, [], ◌∷◌, ◌++◌, map-append}
use native.Mathlib.Omega.{arith}
use lib.Dec.{leb, eqb}
use lib.ListN.{length, take, drop}
use borrow.Author.Tests.{le-leb, leb-false}
use Rattle.common.proofs.Bools.{either}
use Rattle.window.specs.Sides.{Both}
use Rattle.window.specs.Packets.{modulus, advance, Payloads, Packet, dack_pdu}
use Rattle.window.specs.Ends.{Rules, Lawful, Sender, Receiver, End, freed, judged, acknowledges, with_line, with_sender}
use Rattle.window.specs.Events.{arrive}
use Rattle.window.proofs.InFlight.{InFlight}
use Rattle.window.proofs.Window.{window_dack}
use Rattle.window.proofs.Marks.{Mark, data_mark, dack_mark, data_of, dacks_of, data_of_answered, dacks_of-answered, packet_of}
use Rattle.window.proofs.Flow.{Assumed, unsure, Flow, flow_weaken, flow_judge, flow_acknowledge, flow_lose_data, flow_lose_dack}
use Rattle.window.proofs.Invariant.{marked, packets_of, FlowTo, Invariant, invariant_unsure}

-- a distance that acknowledges nothing of a queue that it does not pass is 0
none_acknowledged : (d : ℕ) (q : Payloads) → d ≤ length q → acknowledges d q ≡ false → d ≡ 0
none_acknowledged d q h e = omega (arith, leb-false 1 d (left_false (leb 1 d) (le-leb d (length q) h) e))
  where
    left_false : (a : Bool) {b : Bool} → b ≡ true → (a && b) ≡ false → a ≡ false
    left_false true t f = cc
    left_false false t f = refl

module _ (r : Rules) (law : Lawful r) {a b : Assumed} (s : Both End) (v : Invariant r a b s) where
  -- ---- DATA: judged, and answered by a DACK
  data_arrives : (f : InFlight) (g : List Mark) → FlowTo r b v.right s.right s.left (f ∷ data_of g) (dacks_of v.left.marks)
      → FlowTo r a v.left s.left s.right (data_of v.left.marks) (dacks_of g)
      → Invariant r a b (arrive r true (packets_of r (data_mark f ∷ g)) s)
  data_arrives f g flow other = record {
    left = marked (v.left.marks ++ (dack_mark (length y.delivered) ∷ [])) v.left;
    right = marked g v.right;
    left_line = (λ i. v.left_line i ++ (dack_pdu (r.dack_number (later.placed.expected i)) ∷ []))
        ∙ sym (map-append (packet_of r.dack_number) v.left.marks (dack_mark (length y.delivered) ∷ []));
    right_line = refl;
    left_flow = rw (data_of_answered v.left.marks (length y.delivered)) other;
    right_flow = rw (dacks_of-answered v.left.marks (length y.delivered)) later;
  }
    where
      hit : Bool
      hit = eqb (f.index % modulus) s.left.receiver.expected

      y : Receiver
      y = judged hit f.payload s.left.receiver

      later : Flow r b v.right.acked v.right.reached s.right.sender y (data_of g) (dacks_of v.left.marks ++ (length y.delivered ∷ []))
      later = flow_judge r law.below hit refl flow

  -- ---- DACK: it frees as many slots as it acknowledges beyond the base
  with_sender_lem : {c d : Assumed} (g : List Mark) (acked : Payloads) (x : Sender)
      → Flow r c acked v.left.reached x s.right.receiver (data_of v.left.marks) (dacks_of g)
      → FlowTo r d v.right s.right s.left (data_of g) (dacks_of v.left.marks)
      → Invariant r c d (record { left = with_sender x s.left; right = with_line (packets_of r g) s.right })
  with_sender_lem g acked x flow other = record {
    left = record { marks = v.left.marks; acked = acked; reached = v.left.reached };
    right = marked g v.right;
    left_line = v.left_line;
    right_line = refl;
    left_flow = flow;
    right_flow = other;
  }

  freed_none : (d : ℕ) → d ≡ 0 → freed d s.left.sender ≡ s.left.sender
  freed_none d e =
      let x = s.left.sender in
      let same : advance s.left.sender.base d ≡ s.left.sender.base = omega (arith, v.left_flow.placed.residue) in
      λ i. record { queue = drop (e i) x.queue; base = same i; accepted = x.accepted; sent = x.sent; lost = x.lost }

  dack_arrives : (k : ℕ) (g : List Mark) → FlowTo r a v.left s.left s.right (data_of v.left.marks) (k ∷ dacks_of g)
      → FlowTo r b v.right s.right s.left (data_of g) (dacks_of v.left.marks)
      → Invariant r a b (arrive r true (packets_of r (dack_mark k ∷ g)) s)
  dack_arrives k g flow other =
      rw away
      (either (λ (x : Sender). Invariant r a b (record { left = with_sender x s.left; right = with_line (packets_of r g) s.right }))
      (acknowledges n s.left.sender.queue)
      (λ e. with_sender_lem g _ _ less.1 other)
      (λ e. with_sender_lem g _ _ (rw (freed_none n (none_acknowledged n s.left.sender.queue less.0 e)) at less.1) other))
    where
      n : ℕ
      n = k - length v.left.acked

      less : (n ≤ length s.left.sender.queue)
          × Flow r a (v.left.acked ++ take n s.left.sender.queue) v.left.reached (freed n s.left.sender) s.right.receiver
          (data_of v.left.marks) (dacks_of g)
      less = flow_acknowledge r law.below flow

      bounds : (length v.left.acked ≤ k) × (k ≤ length s.left.sender.accepted) × (k < length v.left.acked + modulus)
      bounds = window_dack r.window law.below flow.window

      away : r.distance s.left.sender.base (r.dack_number (k % modulus)) ≡ n
      away =
          ap (λ (x : ℕ). r.distance x (r.dack_number (k % modulus))) flow.placed.residue
          ∙ law.distance (length v.left.acked) k bounds.0 bounds.2

  -- ---- by the front of the line
  by_front : (g : List Mark) → v.right.marks ≡ g → Invariant r a b (arrive r true (packets_of r g) s)
  by_front [] e = v
  by_front (data_mark f ∷ g) e = data_arrives f g (rw e at v.right_flow) (rw e at v.left_flow)
  by_front (dack_mark k ∷ g) e = dack_arrives k g (rw e at v.left_flow) (rw e at v.right_flow)

  -- refused, the packet is lost
  refused_front : (g : List Mark) → v.right.marks ≡ g → Invariant r (unsure a) (unsure b) (arrive r false (packets_of r g) s)
  refused_front [] e = invariant_unsure r v
  refused_front (data_mark f ∷ g) e = record {
    left = v.left;
    right = marked g v.right;
    left_line = v.left_line;
    right_line = refl;
    left_flow = flow_weaken r (λ u. u) (λ u. absurd u) (rw e at v.left_flow);
    right_flow = flow_lose_data r 0 (rw e at v.right_flow);
  }
  refused_front (dack_mark k ∷ g) e =
      with_sender_lem g v.left.acked _ (flow_lose_dack r 0 (rw e at v.left_flow)) (flow_weaken r (λ u. u) (λ u. absurd u) (rw e at v.right_flow))

  pub invariant_arrive : Invariant r a b (arrive r true s.right.line s)
  invariant_arrive = subst (λ (l : List Packet). Invariant r a b (arrive r true l s)) (sym v.right_line) (by_front v.right.marks refl)

  pub invariant_refuse : Invariant r (unsure a) (unsure b) (arrive r false s.right.line s)
  invariant_refuse = subst (λ (l : List Packet). Invariant r (unsure a) (unsure b) (arrive r false l s)) (sym v.right_line) (refused_front v.right.marks refl)
