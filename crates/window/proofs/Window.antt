-- The window in whole numbers, one direction: what is acknowledged, delivered and accepted, and what is in flight between. Assumes nothing.
--
--   base        payloads acknowledged to the sender: the index of its oldest slot
--   received    payloads delivered: the index that the receiver expects
--   flight      DATA on the way to the receiver, front first
--   dacks       for each DACK on the way back, how many payloads had been delivered when it was sent
--
--   base ≤ dacks, rising ≤ received ≤ limits of the flight, rising ≤ accepted ≤ base + W
--
-- The limit is what keeps old repeats apart from new DATA: it lies above the index and at most W above it, and limits rise along the line.
-- So an index in flight is at most W away from the one expected, on either side, and with W below 16 the residue tells whether it is the same.
use Prim.Native.Nat.{ℕ, suc, ◌+◌, ◌%◌, ◌≤◌, ◌<◌}
use mathlib.Core.Path.{◌≡◌, subst}
use mathlib.Core.Option.{some}
use mathlib.Core.List.{List, [], ◌∷◌, ◌++◌, append_assoc}
use native.Mathlib.Omega.{arith}
use lib.ListN.{length, length-append, get_elem?}
use Rattle.window.specs.Sides.{erase_at}
use Rattle.window.specs.Packets.{modulus, Payload, Payloads}
use Rattle.window.proofs.Rising.{Rising, rising_lower, rising_upper, rising_le, rising-++, rising-erase_at, rising_snoc}
use Rattle.window.proofs.InFlight.{InFlight, sent_next, limits, limits-++, map-erase_at, All, all-++, all-erase_at, all_map, get-++, get_seam, batch, batch_rising}

module _ (W : ℕ) where
  -- a DATA in flight carries the payload at its index, and its limit is above the index by 1 to W
  abbrev pub Fits : Payloads → InFlight → Type 0
  Fits accepted f = (f.index < f.limit) × (f.limit ≤ f.index + W) × (get_elem? accepted f.index ≡ some f.payload)

  pub record InWindow (accepted : Payloads) (base received : ℕ) (flight : List InFlight) (dacks : List ℕ) : Type 0 where
    -- DACKs come back in the order in which they were sent, and none acknowledges less than the base or more than was delivered
    pub acks : Rising base dacks received
    -- DATA is on the line in the order in which it was sent, and none was sent before what is delivered had been accepted
    pub ahead : Rising received (limits flight) (length accepted)
    -- no more than W payloads are outstanding
    pub room : length accepted ≤ base + W
    pub fits : All (Fits accepted) flight

  module _ {accepted : Payloads} {base received : ℕ} where
    -- the expected DATA is delivered, and a DACK says so
    pub window_deliver : {f : InFlight} {flight : List InFlight} {dacks : List ℕ} → InWindow accepted base received (f ∷ flight) dacks → f.index ≡ received
        → InWindow accepted base (suc received) flight (dacks ++ (suc received ∷ []))
    window_deliver {f} {flight} {dacks} v h = record {
      acks = rising_snoc base dacks received (suc received) (omega arith) v.acks;
      ahead = rising_lower (suc received) f.limit (limits flight) (length accepted) (omega (arith, v.fits.0.0)) v.ahead.1;
      room = v.room;
      fits = v.fits.1;
    }

    -- another DATA is answered by the same DACK as before
    pub window_repeat : {f : InFlight} {flight : List InFlight} {dacks : List ℕ} → InWindow accepted base received (f ∷ flight) dacks
        → InWindow accepted base received flight (dacks ++ (received ∷ []))
    window_repeat {f} {flight} {dacks} v = record {
      acks = rising_snoc base dacks received received (omega arith) v.acks;
      ahead = rising_lower received f.limit (limits flight) (length accepted) v.ahead.0 v.ahead.1;
      room = v.room;
      fits = v.fits.1;
    }

    -- a DACK moves the base to what it acknowledges
    pub window_acknowledge : {k : ℕ} {flight : List InFlight} {dacks : List ℕ} → InWindow accepted base received flight (k ∷ dacks)
        → InWindow accepted k received flight dacks
    window_acknowledge v = record { acks = v.acks.1; ahead = v.ahead; room = omega (arith, v.acks.0, v.room); fits = v.fits }

    -- losses leave gaps and no disorder
    pub window_lose_data : (n : ℕ) {flight : List InFlight} {dacks : List ℕ} → InWindow accepted base received flight dacks
        → InWindow accepted base received (erase_at n flight) dacks
    window_lose_data n {flight} v = record {
      acks = v.acks;
      ahead = rw (map-erase_at (λ (f : InFlight). f.limit) n flight) (rising-erase_at n received (limits flight) (length accepted) v.ahead);
      room = v.room;
      fits = all-erase_at (Fits accepted) n flight v.fits;
    }

    pub window_lose_dack : (n : ℕ) {flight : List InFlight} {dacks : List ℕ} → InWindow accepted base received flight dacks
        → InWindow accepted base received flight (erase_at n dacks)
    window_lose_dack n {dacks = dacks} v = record { acks = rising-erase_at n base dacks received v.acks; ahead = v.ahead; room = v.room; fits = v.fits }

    module _ {flight : List InFlight} {dacks : List ℕ} (w : W < modulus) where
      -- equal residues mean equal indices
      pub window_agrees : {f : InFlight} → InWindow accepted base received (f ∷ flight) dacks → f.index % modulus ≡ received % modulus → f.index ≡ received
      window_agrees {f} v h = omega (
        arith,
        v.fits.0.0,
        v.fits.0.1,
        v.ahead.0,
        rising_le f.limit (limits flight) (length accepted) v.ahead.1,
        v.room,
        rising_le base dacks received v.acks,
      )

      -- a DACK acknowledges no less than before, no more than was accepted, and less than the modulus
      pub window_dack : {k : ℕ} → InWindow accepted base received flight (k ∷ dacks) → (base ≤ k) × (k ≤ length accepted) × (k < base + modulus)
      window_dack {k} v =
          let a = rising_le k dacks received v.acks.1 in
          let b = rising_le received (limits flight) (length accepted) v.ahead in
          (v.acks.0, omega (arith, a, b), omega (arith, a, b, v.room))

    -- a payload is accepted while fewer than W are outstanding
    pub window_accept : {flight : List InFlight} {dacks : List ℕ} (p : Payload) → length accepted < base + W → InWindow accepted base received flight dacks
        → InWindow (accepted ++ (p ∷ [])) base received flight dacks
    window_accept {flight} p h v = record {
      acks = v.acks;
      ahead = rising_upper received (limits flight) (length accepted) (length (accepted ++ (p ∷ []))) (omega (arith, length-append accepted (p ∷ []))) v.ahead;
      room = omega (arith, length-append accepted (p ∷ []));
      fits = all_map (Fits accepted) (Fits (accepted ++ (p ∷ []))) flight (λ f o. (o.0, o.1, get-++ accepted (p ∷ []) f.index f.payload o.2)) v.fits;
    }

  -- the payload just accepted is sent at once
  pub window_send_one : (accepted : Payloads) {base received : ℕ} {flight : List InFlight} {dacks : List ℕ} (p : Payload) → 0 < W
      → InWindow (accepted ++ (p ∷ [])) base received flight dacks
      → InWindow (accepted ++ (p ∷ [])) base received (flight ++ (sent_next (length accepted) p ∷ [])) dacks
  window_send_one accepted {base} {received} {flight} p w v =
      let f : InFlight = sent_next (length accepted) p in
      let l : length (accepted ++ (p ∷ [])) ≡ suc (length accepted) = omega (arith, length-append accepted (p ∷ [])) in
      record {
        acks = v.acks;
        ahead = rw (limits-++ flight (f ∷ []), l)
            (rising_snoc received (limits flight) (suc (length accepted)) (suc (length accepted)) (omega arith) (rw l at v.ahead));
        room = v.room;
        fits = all-++ (Fits (accepted ++ (p ∷ []))) flight (f ∷ []) v.fits ((omega arith, omega arith, get_seam accepted p []), tt);
      }

  batch_fits : (c m : ℕ) (before q : Payloads) → length before ≡ m → m + length q ≤ c → c ≤ m + W → All (Fits (before ++ q)) (batch c m q)
  batch_fits c m before [] g h k = tt
  batch_fits c m before (p ∷ q) g h k = (
    (omega arith, omega arith, rw (← g) (get_seam before p q)),
    subst (λ (l : Payloads). All (Fits l) (batch c (suc m) q)) (append_assoc before (p ∷ []) q)
        (batch_fits c (suc m) (before ++ (p ∷ [])) q (omega (arith, length-append before (p ∷ []))) (omega arith) (omega arith)),
  )

  -- the queue q, which stands behind the acknowledged payloads, is sent; at any time
  pub window_send_all : {base received : ℕ} {flight : List InFlight} {dacks : List ℕ} (before q : Payloads) → length before ≡ base
      → InWindow (before ++ q) base received flight dacks
      → InWindow (before ++ q) base received (flight ++ batch (length (before ++ q)) base q) dacks
  window_send_all {base} {received} {flight} before q g v =
      let c = length (before ++ q) in
      record {
        acks = v.acks;
        ahead = rw (limits-++ flight (batch (length (before ++ q)) base q))
            (rising-++ received (limits flight) c (limits (batch c base q)) c v.ahead (batch_rising c base q));
        room = v.room;
        fits = all-++ (Fits (before ++ q)) flight (batch c base q) v.fits (batch_fits c base before q g (omega (arith, length-append before q)) v.room);
      }
