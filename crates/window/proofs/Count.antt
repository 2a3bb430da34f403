-- The count of DATA sent, one direction, in whole numbers. Assumes nothing.
--
-- Either nothing was lost since the last "send all" (Clean), and then what is in flight and what was answered account for every payload
-- sent so far; or something was (Dirty), and then a window of DATA is already paid for by the lost packet.
--
--   reached     payloads sent at least once
use Prim.Native.Nat.{ℕ, suc, ◌+◌, ◌*◌, ◌≤◌}
use mathlib.Core.Path.{◌≡◌}
use mathlib.Core.Logic.{◌⊎◌, inl, inr, ◌≢◌}
use mathlib.Core.List.{List, [], ◌∷◌, ◌++◌}
use native.Mathlib.Omega.{arith}
use lib.ListN.{length}
use Rattle.window.specs.Packets.{Payload, Payloads}
use Rattle.window.proofs.Rising.{Chain, chain_raise, chain-++, chain_snoc, last_or, last_or_snoc}
use Rattle.window.proofs.InFlight.{InFlight, sent_next, indices, indices-++, batch, batch_chain}

-- with no DATA in flight, the last DACK on the way (or the base) acknowledges all that was sent
abbrev pub Answered : List InFlight → ℕ → ℕ → Type 0
Answered [] reached z = reached ≤ z
Answered (f ∷ fs) reached z = Unit {0}

answered_snoc : (fs : List InFlight) (f : InFlight) (t z : ℕ) → Answered (fs ++ (f ∷ [])) t z
answered_snoc [] f t z = tt
answered_snoc (g ∷ fs) f t z = tt

answered_more : (fs gs : List InFlight) (t z : ℕ) → Answered fs t z → Answered (fs ++ gs) t z
answered_more [] [] t z h = h
answered_more [] (g ∷ gs) t z h = tt
answered_more (f ∷ fs) gs t z h = tt

answered_batch : (c m z : ℕ) (q : Payloads) → c ≤ m + length q → m ≤ z → Answered (batch c m q) c z
answered_batch c m z [] h k = omega arith
answered_batch c m z (p ∷ q) h k = tt

-- a DACK that was just sent acknowledges what the chain had reached
answered_end : (fs : List InFlight) (u reached base : ℕ) (dacks : List ℕ) → Chain u (indices fs) reached → Answered fs reached (last_or base (dacks ++ (u ∷ [])))
answered_end [] u reached base dacks h = rw (last_or_snoc base dacks u) h
answered_end (f ∷ fs) u reached base dacks h = tt

-- what is in flight accounts for every payload sent at least once: the indices on the line lead from the one expected to `reached` without a
-- gap, and where no DATA is left in flight the last DACK acknowledges all of them
pub record Trail (accepted base received reached : ℕ) (flight : List InFlight) (dacks : List ℕ) : Type 0 where
  pub some : reached ≤ accepted
  pub chain : Chain received (indices flight) reached
  pub last : Answered flight reached (last_or base dacks)

module _ {accepted base received reached : ℕ} {flight : List InFlight} {dacks : List ℕ} where
  pub trail_accept : Trail accepted base received reached flight dacks → Trail (suc accepted) base received reached flight dacks
  trail_accept t = record { some = omega (arith, t.some); chain = t.chain; last = t.last }

  -- accepted and sent at once
  pub trail_send_one : (p : Payload) → reached ≡ accepted → Trail accepted base received reached flight dacks
      → Trail (suc accepted) base received (suc accepted) (flight ++ (sent_next accepted p ∷ [])) dacks
  trail_send_one p e t =
      let f : InFlight = sent_next accepted p in
      record {
        some = omega arith;
        chain = rw (indices-++ flight (f ∷ []), ← e) (chain_snoc received (indices flight) reached t.chain);
        last = answered_snoc flight f (suc accepted) (last_or base dacks);
      }

  pub trail_deliver : {f : InFlight} → f.index ≡ received → Trail accepted base received reached (f ∷ flight) dacks
      → Trail accepted base (suc received) reached flight (dacks ++ (suc received ∷ []))
  trail_deliver {f} h t =
      let c : Chain (suc received) (indices flight) reached =
      chain_raise (suc f.index) (suc received) (indices flight) reached (omega (arith, h)) t.chain.1 in
      record { some = t.some; chain = c; last = answered_end flight (suc received) reached base dacks c }

  pub trail_repeat : {f : InFlight} → f.index ≢ received → Trail accepted base received reached (f ∷ flight) dacks
      → Trail accepted base received reached flight (dacks ++ (received ∷ []))
  trail_repeat {f} h t =
      let c : Chain received (indices flight) reached =
      chain_raise (suc f.index) received (indices flight) reached (omega (arith, h, t.chain.0)) t.chain.1 in
      record { some = t.some; chain = c; last = answered_end flight received reached base dacks c }

pub trail_acknowledge : {accepted base received reached k : ℕ} (flight : List InFlight) {dacks : List ℕ}
    → Trail accepted base received reached flight (k ∷ dacks)
    → Trail accepted k received reached flight dacks
trail_acknowledge [] t = record { some = t.some; chain = t.chain; last = t.last }
trail_acknowledge (f ∷ flight) t = record { some = t.some; chain = t.chain; last = tt }

-- "send all" with nothing in flight and no DACK on the way begins a trail
pub trail_send_all : {accepted base received : ℕ} (q : Payloads) → base ≤ received → accepted ≡ base + length q
    → Trail accepted base received accepted (batch accepted base q) []
trail_send_all {accepted} {base} {received} q b e = record {
  some = omega arith;
  chain = chain_raise base received (indices (batch accepted base q)) accepted b (rw e (batch_chain (base + length q) base q));
  last = answered_batch accepted base base q (omega arith) (omega arith);
}

-- whatever is on the line, a trail that leads to all that is accepted leads through it
pub trail_send_again : {accepted base received : ℕ} {flight : List InFlight} {dacks : List ℕ} (q : Payloads) → accepted ≡ base + length q
    → Trail accepted base received accepted flight dacks
    → Trail accepted base received accepted (flight ++ batch accepted base q) dacks
trail_send_again {accepted} {base} {received} {flight} {dacks} q e t =
    let again = indices (batch accepted base q) in
    let leads : Chain accepted again accepted = chain_raise base accepted again accepted (omega (arith, e)) (rw e (batch_chain (base + length q) base q)) in
    record {
      some = t.some;
      chain = rw (indices-++ flight (batch accepted base q)) (chain-++ received (indices flight) accepted again accepted t.chain leads);
      last = answered_more flight (batch accepted base q) accepted (last_or base dacks) t.last;
    }

-- nothing left in flight and no DACK on the way: all is acknowledged
pub trail_end : {accepted base received reached : ℕ} → Trail accepted base received reached [] [] → reached ≤ base
trail_end t = t.last

module _ (W : ℕ) where
  pub record Clean (accepted base received reached : ℕ) (flight : List InFlight) (dacks : List ℕ) (sent lost : ℕ) : Type 0 where
    pub sum : sent ≤ reached + W * lost
    pub trail : Trail accepted base received reached flight dacks

  abbrev pub Dirty : ℕ → ℕ → ℕ → Type 0
  Dirty accepted sent lost = sent + W ≤ accepted + W * lost

  abbrev pub Count : (accepted base received reached : ℕ) (flight : List InFlight) (dacks : List ℕ) (sent lost : ℕ) → Type 0
  Count accepted base received reached flight dacks sent lost = Clean accepted base received reached flight dacks sent lost ⊎ Dirty accepted sent lost

  module _ {accepted base received reached : ℕ} {flight : List InFlight} {dacks : List ℕ} {sent lost : ℕ} where
    -- what the count is for
    pub count_bound : Count accepted base received reached flight dacks sent lost → sent ≤ accepted + W * lost
    count_bound (inl c) = omega (arith, c.sum, c.trail.some)
    count_bound (inr d) = omega arith

    -- a packet is lost, whatever is in flight
    pub count_lose : Count accepted base received reached flight dacks sent lost → Dirty accepted sent (suc lost)
    count_lose (inl c) = omega (arith, c.sum, c.trail.some)
    count_lose (inr d) = omega arith

    pub count_accept : Count accepted base received reached flight dacks sent lost → Count (suc accepted) base received reached flight dacks sent lost
    count_accept (inl c) = inl (record { sum = c.sum; trail = trail_accept c.trail })
    count_accept (inr d) = inr (omega arith)

    pub count_send_one : (p : Payload) → reached ≡ accepted → Count accepted base received reached flight dacks sent lost
        → Count (suc accepted) base received (suc accepted) (flight ++ (sent_next accepted p ∷ [])) dacks (suc sent) lost
    count_send_one p e (inl c) = inl (record { sum = omega (arith, c.sum); trail = trail_send_one p e c.trail })
    count_send_one p e (inr d) = inr (omega arith)

  module _ {accepted base received reached : ℕ} {flight : List InFlight} {dacks : List ℕ} {sent lost : ℕ} where
    pub count_deliver : {f : InFlight} → f.index ≡ received → Count accepted base received reached (f ∷ flight) dacks sent lost
        → Count accepted base (suc received) reached flight (dacks ++ (suc received ∷ [])) sent lost
    count_deliver h (inl c) = inl (record { sum = c.sum; trail = trail_deliver h c.trail })
    count_deliver h (inr d) = inr d

    pub count_repeat : {f : InFlight} → f.index ≢ received → Count accepted base received reached (f ∷ flight) dacks sent lost
        → Count accepted base received reached flight (dacks ++ (received ∷ [])) sent lost
    count_repeat h (inl c) = inl (record { sum = c.sum; trail = trail_repeat h c.trail })
    count_repeat h (inr d) = inr d

    pub count_acknowledge : {k : ℕ} → Count accepted base received reached flight (k ∷ dacks) sent lost
        → Count accepted k received reached flight dacks sent lost
    count_acknowledge (inl c) = inl (record { sum = c.sum; trail = trail_acknowledge flight c.trail })
    count_acknowledge (inr d) = inr d

  -- "send all" with nothing in flight and no DACK on the way: all that was sent is acknowledged or paid for, and the count is clean again
  pub count_send_all : {accepted base received reached sent lost : ℕ} (q : Payloads) → base ≤ received → accepted ≡ base + length q → length q ≤ W
      → Count accepted base received reached [] [] sent lost
      → Clean accepted base received accepted (batch accepted base q) [] (sent + length q) lost
  count_send_all q b e w (inl c) = record { sum = omega (arith, c.sum, trail_end c.trail); trail = trail_send_all q b e }
  count_send_all q b e w (inr d) = record { sum = omega arith; trail = trail_send_all q b e }
