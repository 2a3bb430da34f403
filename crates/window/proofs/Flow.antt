-- One direction: a sender, a receiver, DATA in flight and DACKs on the way back. The residues that the ends hold against whole numbers,
-- and the count. Assumes nothing.
--
-- What the proof knows beside the state stands as a parameter: `acked` are the payloads that left the queue, `reached` is how many were sent
-- at least once. What holds only on a condition stands under it: the count where the sender's timer has waited, the trail where since the
-- queue was last sent with the line drained no packet of this direction was lost and no payload queued that is not sent; and the trail again
-- where payloads are sent at once and no packet of this direction was ever lost.
use Prim.Native.Nat.{ℕ, suc, ◌+◌, ◌-◌, ◌*◌, ◌%◌, ◌≤◌, ◌<◌}
use mathlib.Core.Path.{◌≡◌, refl, sym, ap, subst, ◌∙◌}
use mathlib.Core.Logic.{◌⊎◌, inl, inr, ◌≢◌}
use mathlib.Core.Bool.{Bool, true, false, not}
use mathlib.Core.Option.{some}
use mathlib.Core.List.{List, [], ◌∷◌, ◌++◌, append_assoc}
use native.Mathlib.Omega.{arith}
use native.Mathlib.Nat.{add-zero}
use lib.Dec.{T, T_not, eqb}
use borrow.Author.Tests.{eqb-true, eqb-false}
use lib.ListN.{length, length-append, length-take, take, drop, take-append-drop, get_elem?}
use Rattle.window.specs.Sides.{erase_at}
use Rattle.window.specs.Packets.{modulus, Payload, Payloads}
use Rattle.window.specs.Ends.{Rules, Sender, Receiver, queued, counted, lost_one, freed, delivering, judged}
use Rattle.window.proofs.Rising.{rising_le}
use Rattle.window.proofs.InFlight.{InFlight, sent_next, batch, prefix_snoc}
use Rattle.window.proofs.Window.{InWindow, window_deliver, window_repeat, window_acknowledge, window_lose_data, window_lose_dack, window_agrees, window_dack, window_accept, window_send_one, window_send_all}
use Rattle.window.proofs.Count.{Trail, trail_send_one, trail_deliver, trail_repeat, trail_acknowledge, trail_send_all, trail_send_again, Count, count_bound, count_lose, count_accept, count_send_one, count_deliver, count_repeat, count_acknowledge, count_send_all}

-- the two conditions, as the proof has collected them so far
pub record Assumed : Type 1 where
  pub waited : Type 0
  pub intact : Type 0

-- the timer has waited so far if P; packets may have been lost
abbrev pub assumed : Type 0 → Assumed
assumed P = record { waited = P; intact = ⊥ }

-- a packet was lost, or a payload is queued that is not sent
abbrev pub unsure : Assumed → Assumed
unsure a = assumed a.waited

-- all was sent, with this flight and these DACKs on the line
abbrev pub sent_on : Assumed → List InFlight → List ℕ → Assumed
sent_on a flight dacks = record { waited = a.waited × (flight ≡ []) × (dacks ≡ []); intact = (flight ≡ []) × (dacks ≡ []) }

-- where both halves stand in the list of payloads accepted: what left the queue and the queue make it up; so do what is delivered and what is
-- pending; and the numbers that the halves hold are the residues of how many were acknowledged and delivered
pub record Placed (acked queue accepted : Payloads) (base : ℕ) (y : Receiver) : Type 0 where
  pub pending : Payloads
  pub split : acked ++ queue ≡ accepted
  pub prefix : y.delivered ++ pending ≡ accepted
  pub residue : base ≡ length acked % modulus
  pub expected : y.expected ≡ length y.delivered % modulus

-- one payload more
placed_accept : {acked queue accepted : Payloads} {base : ℕ} {y : Receiver} (p : Payload) → Placed acked queue accepted base y
    → Placed acked (queue ++ (p ∷ [])) (accepted ++ (p ∷ [])) base y
placed_accept {acked} {queue} {y = y} p f = record {
  pending = f.pending ++ (p ∷ []);
  split = sym (append_assoc acked queue (p ∷ [])) ∙ ap (λ (l : Payloads). l ++ (p ∷ [])) f.split;
  prefix = sym (append_assoc y.delivered f.pending (p ∷ [])) ∙ ap (λ (l : Payloads). l ++ (p ∷ [])) f.prefix;
  residue = f.residue;
  expected = f.expected;
}

module _ (r : Rules) where
  -- where what is on the line leads to all that is accepted
  abbrev pub Leads : Assumed → Sender → Type 0
  Leads a x = a.intact ⊎ (T r.at_once × (x.lost ≡ 0))

  -- not behind a loss
  lost_leads : (a : Assumed) (x : Sender) → Leads (unsure a) (lost_one x) → ⊥
  lost_leads a x (inl u) = u
  lost_leads a x (inr u) = omega (arith, u.1)

  pub record Flow (a : Assumed) (acked : Payloads) (reached : ℕ) (x : Sender) (y : Receiver) (flight : List InFlight) (dacks : List ℕ) : Type 0 where
    -- in whole numbers: where the halves stand, and what is in flight between them
    pub placed : Placed acked x.queue x.accepted x.base y
    pub window : InWindow r.window x.accepted (length acked) (length y.delivered) flight dacks
    -- where payloads are sent at once, all that are accepted were sent
    pub once : T r.at_once → reached ≡ length x.accepted
    -- DATA sent against payloads accepted and packets lost
    pub count : a.waited → Count r.window (length x.accepted) (length acked) (length y.delivered) reached flight dacks x.sent x.lost
    -- what is on the line leads to all that is accepted
    pub trail : Leads a x → Trail (length x.accepted) (length acked) (length y.delivered) (length x.accepted) flight dacks

  module _ {a : Assumed} {acked : Payloads} {reached : ℕ} {x : Sender} {y : Receiver} {flight : List InFlight} {dacks : List ℕ} where
    pub flow_bound : Flow a acked reached x y flight dacks → a.waited → x.sent ≤ length x.accepted + r.window * x.lost
    flow_bound f h = count_bound r.window (f.count h)

    pub flow_weaken : {b : Assumed} → (b.waited → a.waited) → (b.intact → a.intact) → Flow a acked reached x y flight dacks
        → Flow b acked reached x y flight dacks
    flow_weaken {b = b} g h f = record {
      placed = f.placed;
      window = f.window;
      once = f.once;
      count = λ u. f.count (g u);
      trail = λ u. f.trail (leads u);
    }
      where
        leads : Leads b x → Leads a x
        leads (inl u) = inl (h u)
        leads (inr u) = inr u

    pub flow-length : Flow a acked reached x y flight dacks → length x.accepted ≡ length acked + length x.queue
    flow-length f = ap length (sym f.placed.split) ∙ length-append acked x.queue

    -- a payload is accepted, and not sent at once
    pub flow_accept : (p : Payload) → T (not r.at_once) → length x.queue < r.window → Flow a acked reached x y flight dacks
        → Flow (unsure a) acked reached (queued p 0 x) y flight dacks
    flow_accept p t h f = record {
      placed = placed_accept p f.placed;
      window = window_accept r.window p (omega (arith, flow-length f)) f.window;
      once = λ u. absurd (T_not r.at_once t u);
      count = λ u. rw (add-zero x.sent, longer) (count_accept r.window (f.count u));
      trail = λ u. absurd (unsent u);
    }
      where
        unsent : Leads (unsure a) (queued p 0 x) → ⊥
        unsent (inl u) = u
        unsent (inr u) = T_not r.at_once t u.0

        longer : length (x.accepted ++ (p ∷ [])) ≡ suc (length x.accepted)
        longer = omega (arith, length-append x.accepted (p ∷ []))

    -- accepted and sent at once
    pub flow_accept_once : (p : Payload) → T r.at_once → length x.queue < r.window → Flow a acked reached x y flight dacks
        → Flow a acked (suc (length x.accepted)) (queued p 1 x) y (flight ++ (sent_next (length x.accepted) p ∷ [])) dacks
    flow_accept_once p t h f = record {
      placed = placed_accept p f.placed;
      window = window_send_one r.window x.accepted p (omega (arith, h)) (window_accept r.window p (omega (arith, flow-length f)) f.window);
      once = λ u. sym longer;
      count = λ u. rw (longer, one_more) (count_send_one r.window p (f.once t) (f.count u));
      trail = λ u. rw longer (trail_send_one p refl (f.trail u));
    }
      where
        longer : length (x.accepted ++ (p ∷ [])) ≡ suc (length x.accepted)
        longer = omega (arith, length-append x.accepted (p ∷ []))

        one_more : x.sent + 1 ≡ suc x.sent
        one_more = omega arith

    -- "send all"; the count goes on, and a trail begins, where nothing of this direction is on the line
    pub flow_send_all : (n : ℕ) → n ≡ length x.queue → Flow a acked reached x y flight dacks
        → Flow (sent_on a flight dacks) acked (length x.accepted) (counted n x) y (flight ++ batch (length x.accepted) (length acked) x.queue) dacks
    flow_send_all n e f = record {
      placed = f.placed;
      window = subst
          (λ (l : Payloads). InWindow r.window l (length acked) (length y.delivered) (flight ++ batch (length l) (length acked) x.queue) dacks)
          f.placed.split
          (window_send_all r.window acked x.queue refl (rw (← f.placed.split) at f.window));
      once = λ u. refl;
      count = λ u. inl (rw (u.1, u.2, e)
          (count_send_all r.window x.queue behind (flow-length f) (omega (arith, f.window.room, flow-length f)) (rw (u.1, u.2) at (f.count u.0))));
      trail = led;
    }
      where
        behind : length acked ≤ length y.delivered
        behind = rising_le (length acked) dacks (length y.delivered) f.window.acks

        led : Leads (sent_on a flight dacks) (counted n x)
            → Trail (length x.accepted) (length acked) (length y.delivered) (length x.accepted)
            (flight ++ batch (length x.accepted) (length acked) x.queue) dacks
        led (inl u) = rw (u.0, u.1) (trail_send_all x.queue behind (flow-length f))
        led (inr u) = trail_send_again x.queue (flow-length f) (f.trail (inr u))

    -- with nothing queued and nothing on the line, all is acknowledged
    pub flow_idle : x.queue ≡ [] → flight ≡ [] → dacks ≡ [] → Flow a acked reached x y flight dacks
        → Flow (record { waited = a.waited; intact = Unit {0} }) acked reached x y flight dacks
    flow_idle e d c f = record {
      placed = f.placed;
      window = f.window;
      once = f.once;
      count = f.count;
      trail = λ u. rw (d, c)
          (trail_send_all [] (rising_le (length acked) dacks (length y.delivered) f.window.acks)
          (flow-length f ∙ ap (λ (q : Payloads). length acked + length q) e));
    }

    pub flow_lose_data : (n : ℕ) → Flow a acked reached x y flight dacks → Flow (unsure a) acked reached (lost_one x) y (erase_at n flight) dacks
    flow_lose_data n f = record {
      placed = f.placed;
      window = window_lose_data r.window n f.window;
      once = f.once;
      count = λ u. inr (count_lose r.window (f.count u));
      trail = λ u. absurd (lost_leads a x u);
    }

    pub flow_lose_dack : (n : ℕ) → Flow a acked reached x y flight dacks → Flow (unsure a) acked reached (lost_one x) y flight (erase_at n dacks)
    flow_lose_dack n f = record {
      placed = f.placed;
      window = window_lose_dack r.window n f.window;
      once = f.once;
      count = λ u. inr (count_lose r.window (f.count u));
      trail = λ u. absurd (lost_leads a x u);
    }

  module _ {a : Assumed} {acked : Payloads} {reached : ℕ} {x : Sender} {y : Receiver} {flight : List InFlight} {dacks : List ℕ} where
    module _ (w : r.window < modulus) where
      -- DATA with the expected number
      flow_deliver : {d : InFlight} → d.index % modulus ≡ y.expected → Flow a acked reached x y (d ∷ flight) dacks
          → Flow a acked reached x (delivering d.payload y) flight (dacks ++ (length (y.delivered ++ (d.payload ∷ [])) ∷ []))
      flow_deliver {d} h f = record {
        placed = record {
          pending = grown.0;
          split = f.placed.split;
          prefix = grown.1 ∙ f.placed.prefix;
          residue = f.placed.residue;
          expected = omega (arith, f.placed.expected, longer);
        };
        window = rw longer (window_deliver r.window f.window same);
        once = f.once;
        count = λ u. rw longer (count_deliver r.window same (f.count u));
        trail = λ u. rw longer (trail_deliver same (f.trail u));
      }
        where
          same : d.index ≡ length y.delivered
          same = window_agrees r.window w f.window (omega (arith, h, f.placed.expected))

          longer : length (y.delivered ++ (d.payload ∷ [])) ≡ suc (length y.delivered)
          longer = omega (arith, length-append y.delivered (d.payload ∷ []))

          here : get_elem? (y.delivered ++ f.placed.pending) (length y.delivered) ≡ some d.payload
          here = rw (f.placed.prefix, ← same) f.window.fits.0.2

          grown : (t : Payloads) × ((y.delivered ++ (d.payload ∷ [])) ++ t ≡ y.delivered ++ f.placed.pending)
          grown = prefix_snoc y.delivered f.placed.pending d.payload here

      -- a DACK arrives: it acknowledges k, and frees the slots between; none where it is the base
      pub flow_acknowledge : {k : ℕ} → Flow a acked reached x y flight (k ∷ dacks)
          → (k - length acked ≤ length x.queue) × Flow a (acked ++ take (k - length acked) x.queue) reached (freed (k - length acked) x) y flight dacks
      flow_acknowledge {k} f = (
        fewer,
        record {
          placed = record {
            pending = f.placed.pending;
            split = append_assoc acked (take (k - length acked) x.queue) (drop (k - length acked) x.queue)
                ∙ ap (λ (l : Payloads). acked ++ l) (take-append-drop (k - length acked) x.queue)
                ∙ f.placed.split;
            prefix = f.placed.prefix;
            residue = omega (arith, f.placed.residue, longer, bounds.0);
            expected = f.placed.expected;
          };
          window = rw longer (window_acknowledge r.window f.window);
          once = f.once;
          count = λ u. rw longer (count_acknowledge r.window (f.count u));
          trail = λ u. rw longer (trail_acknowledge flight (f.trail u));
        },
      )
        where
          bounds : (length acked ≤ k) × (k ≤ length x.accepted) × (k < length acked + modulus)
          bounds = window_dack r.window w f.window

          fewer : k - length acked ≤ length x.queue
          fewer = omega (arith, bounds.0, bounds.1, flow-length f)

          longer : length (acked ++ take (k - length acked) x.queue) ≡ k
          longer = omega (arith, bounds.0, fewer, length-append acked (take (k - length acked) x.queue), length-take (k - length acked) x.queue)

    -- DATA with another number
    flow_repeat : {d : InFlight} → d.index % modulus ≢ y.expected → Flow a acked reached x y (d ∷ flight) dacks
        → Flow a acked reached x y flight (dacks ++ (length y.delivered ∷ []))
    flow_repeat {d} h f = record {
      placed = f.placed;
      window = window_repeat r.window f.window;
      once = f.once;
      count = λ u. count_repeat r.window other (f.count u);
      trail = λ u. trail_repeat other (f.trail u);
    }
      where
        other : d.index ≢ length y.delivered
        other e = h (ap (λ (n : ℕ). n % modulus) e ∙ sym f.placed.expected)

  -- DATA arrives: it is judged by its residue, and the DACK says how many payloads are delivered now
  pub flow_judge : (w : r.window < modulus) {a : Assumed} {acked : Payloads} {reached : ℕ} {x : Sender} {y : Receiver}
      {d : InFlight} {flight : List InFlight} {dacks : List ℕ}
      → (hit : Bool)
      → eqb (d.index % modulus) y.expected ≡ hit
      → Flow a acked reached x y (d ∷ flight) dacks
      → Flow a acked reached x (judged hit d.payload y) flight (dacks ++ (length (judged hit d.payload y).delivered ∷ []))
  flow_judge w {y = y} {d = d} true e f = flow_deliver w (eqb-true (d.index % modulus) y.expected e) f
  flow_judge w {y = y} {d = d} false e f = flow_repeat (eqb-false (d.index % modulus) y.expected e) f
