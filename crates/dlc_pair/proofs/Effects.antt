-- What the step table says at an open link, test by test, and on the way to one: the one file that opens it. Assumes nothing.
--
-- Each effect is a nest of choices over Bools, so that a proof goes by cases on the Bools; `simulates` puts them together.
use Prim.Native.Nat.{ℕ, zero, suc, ◌*◌, ◌≤◌, ◌<◌}
use native.Mathlib.Omega.{arith}
use native.Mathlib.Nat.{add-zero}
use mathlib.Core.Path.{◌≡◌, refl, sym, ap, subst, ◌∙◌}
use mathlib.Core.Bool.{Bool, true, false, cond, not, ◌&&◌}
use mathlib.Core.List.{[], ◌∷◌, ◌++◌, append-nil}
use lib.ListN.{length}
use lib.Dec.{leb, ltb, eqb, leb-suc-zero}
use borrow.Author.Tests.{lt-ltb, le-ltb, leb-true, leb-false, ltb-false}
use Rattle.common.proofs.Bools.{and_false}
use Rattle.dlc_packet.specs.Numbers.{Edition}
use Rattle.dlc_packet.proofs.Numbers.{distance-dack_number, dack_number-below}
use Rattle.dlc_table.specs.declared.State.TheVariants.{Reset, Data}
use Rattle.dlc_table.specs.Answers.{done, payload_too_long, not_open, queue_full, no_entry, reply_too_small}
use Rattle.dlc_table.specs.Model.{Model, rebuilt, in_state, fresh, opened}
use Rattle.dlc_table.specs.Events.{Effect, effect, refuse, cleared, state_of, without, distance_of, dack_step, timer_step, start_step}
use Rattle.dlc_table.specs.Events.{queued, is_open, packet_step, start_of, timer_of, payload_of, arrival_of}
use Rattle.dlc_table.proofs.Rows.{taken, other, data_open}
use Rattle.dlc_packet.specs.Packet.{max_packet}
use Rattle.dlc.specs.Limits.{modulus, advance, slots, max_payload, reply_size, reset_packet, reset_ack_packet, data_packets}
use Rattle.dlc_queue.proofs.Limits.{slots_below}
use Rattle.dlc.proofs.Values.{Fits, fits_fresh, fits_rebuilt}
use Rattle.dlc_run.specs.Replies.{Octets, Packets}
use Rattle.window.specs.Packets.{Packet, data_pdu, dack_pdu, numbered}
use Rattle.window.specs.Ends.{Lawful, End as Peer, delivering, freed, lost_one, acknowledges, with_sender, first_sent, accept, send_all, take_data}
use Rattle.window.proofs.InFlight.{All}
use Rattle.dlc_pair.specs.Rules.{rules}
use Rattle.dlc_pair.proofs.Codec.{encode, Sound, kind_of_data, kind_of_dack, data_packets-numbered, sound_numbered}
use Rattle.dlc_pair.proofs.OneCall.{becomes_same, becomes_sender, becomes_answer}
use Rattle.dlc_pair.proofs.Simulates.{too_short, passes, offered, timed_out, reached, Bare, Offer, Arrival, Simulates}

module _ (edition : Edition) where
  -- the rules of the sliding window are kept where the places are fewer than the numbers; a DACK's distance is what it acknowledges
  pub lawful_below : (limit : ℕ) → limit < modulus → Lawful (rules edition limit)
  lawful_below limit h = record { below = h; distance = distance-dack_number edition }

  pub lawful : Lawful (rules edition slots)
  lawful = lawful_below slots slots_below

  -- the model of an open link that stands where an end of the packet system does
  abbrev pub model_of : Peer → Model
  model_of a = rebuilt (opened edition) (state_of a.sender.queue) a.sender.queue a.sender.base a.receiver.expected

  pub opened_fits : Fits (opened edition)
  opened_fits = fits_rebuilt (fresh edition) (fits_fresh edition) Data [] 0 0 (omega arith) tt (omega arith) (omega arith) refl

  module _ (limit : ℕ) where
    -- ---- start: 26 or 24
    abbrev start_effect : Bool → Model → Effect
    start_effect short m = cond short (refuse m reply_too_small) (refuse m no_entry)

    start_open : (m : Model) (q : Packets) → start_step m (state_of q) ≡ refuse m no_entry
    start_open m [] = refl
    start_open m (p ∷ q) = refl

    start_of_open : (a : Peer) (n : ℕ) → start_of limit (model_of a) n ≡ start_effect (ltb n (limit * max_packet)) (model_of a)
    unfolding start_of
    start_of_open a n = ap (cond (ltb n (limit * max_packet)) (refuse (model_of a) reply_too_small)) (start_open (model_of a) a.sender.queue)

    start_becomes : (a : Peer) (short : Bool) → Bare model_of (start_effect short (model_of a)) a a
    start_becomes a true = becomes_same reply_too_small (λ e. omega (arith, e))
    start_becomes a false = becomes_same no_entry (λ e. omega (arith, e))

    -- ---- timer: 26, 24 or all sent
    abbrev timer_effect : Bool → Bool → Model → Effect
    timer_effect short some m = cond short (refuse m reply_too_small) (cond some (effect done (data_packets m.base m.queue) m) (refuse m no_entry))

    timer_open : (m : Model) (q : Packets) → timer_step m (state_of q) ≡ cond (ltb 0 (length q)) (effect done (data_packets m.base m.queue) m) (refuse m no_entry)
    timer_open m [] = refl
    timer_open m (p ∷ q) = rw (lt-ltb 0 (suc (length q)) (omega arith))

    timer_of-open : (a : Peer) (n : ℕ) → timer_of limit (model_of a) n ≡ timer_effect (ltb n (limit * max_packet)) (ltb 0 (length a.sender.queue)) (model_of a)
    unfolding timer_of
    timer_of-open a n = ap (cond (ltb n (limit * max_packet)) (refuse (model_of a) reply_too_small)) (timer_open (model_of a) a.sender.queue)

    timer_becomes : (a : Peer) → Fits (model_of a) → (short some : Bool) → Bare model_of (timer_effect short some (model_of a)) a (cond (not short && some) (send_all (rules edition limit) a) a)
    timer_becomes a f true some = becomes_same reply_too_small (λ e. omega (arith, e))
    timer_becomes a f false false = becomes_same no_entry (λ e. omega (arith, e))
    timer_becomes a f false true = record {
      model = refl;
      code = λ e. omega (arith, e);
      sends = numbered a.sender.base a.sender.queue;
      packets = data_packets-numbered a.sender.base a.sender.queue;
      line = refl;
      accepts = sym (append-nil a.sender.accepted);
      delivers = sym (append-nil a.receiver.delivered);
      sent = refl;
      loses = sym (add-zero a.sender.lost);
      sound = sound_numbered a.sender.base a.sender.queue f.base f.short;
    }

    -- ---- payload: 26, 21, 22 or accepted
    abbrev payload_effect : Bool → Bool → Bool → Model → Octets → Effect
    payload_effect short long full m p = cond short (refuse m reply_too_small) (cond long (refuse m payload_too_long) (cond full (refuse m queue_full) (queued m p)))

    is_open_lem : (q : Packets) → is_open (state_of q) ≡ true
    is_open_lem [] = refl
    is_open_lem (p ∷ q) = refl

    payload_of-open : (a : Peer) (p : Octets) (n : ℕ)
        → payload_of limit (model_of a) p n ≡ payload_effect (ltb n (limit * max_packet)) (ltb max_payload (length p)) (leb limit (length a.sender.queue)) (model_of a) p
    unfolding payload_of
    payload_of-open a p n = λ i. cond (ltb n (limit * max_packet)) (refuse (model_of a) reply_too_small)
        (cond (ltb max_payload (length p)) (refuse (model_of a) payload_too_long)
        (cond (not (is_open_lem a.sender.queue i)) (refuse (model_of a) not_open)
        (cond (leb limit (length a.sender.queue)) (refuse (model_of a) queue_full) (queued (model_of a) p))))

    state_snoc : (q : Packets) (p : Octets) → state_of (p ∷ []) ≡ state_of (q ++ (p ∷ []))
    state_snoc [] p = refl
    state_snoc (x ∷ q) p = refl

    sound_first : (once : Bool) (x : ℕ) (p : Octets) → x < modulus → length p ≤ max_payload → All Sound (first_sent once x p)
    sound_first true x p h k = ((h, k), tt)
    sound_first false x p h k = tt

    payload_becomes : (a : Peer) (p : Octets) (short long full : Bool) → (long ≡ false → length p ≤ max_payload)
        → Offer model_of p (payload_effect short long full (model_of a) p) a (cond ((not short && not long) && not full) (accept (rules edition limit) p a) a)
    payload_becomes a p true long full hl = becomes_same reply_too_small (λ e. omega (arith, e))
    payload_becomes a p false true full hl = becomes_same payload_too_long (λ e. omega (arith, e))
    payload_becomes a p false false true hl = becomes_same queue_full (λ e. omega (arith, e))
    payload_becomes a p false false false hl = record {
      model = λ i. rebuilt (opened edition) (state_snoc a.sender.queue p i) (a.sender.queue ++ (p ∷ [])) a.sender.base a.receiver.expected;
      code = λ e. omega (arith, e);
      sends = first_sent (rules edition limit).at_once (advance a.sender.base (length a.sender.queue)) p;
      packets = refl;
      line = refl;
      accepts = refl;
      delivers = sym (append-nil a.receiver.delivered);
      sent = refl;
      loses = sym (add-zero a.sender.lost);
      sound = sound_first (rules edition limit).at_once (advance a.sender.base (length a.sender.queue)) p (omega arith) (hl refl);
    }

    -- there is room where the queue is not full
    ltb_not_leb : (m n : ℕ) → ltb m n ≡ not (leb n m)
    ltb_not_leb m n = by_case (leb n m) refl
      where
        by_case : (b : Bool) → leb n m ≡ b → ltb m n ≡ not b
        by_case true e = le-ltb m n (leb-true n m e)
        by_case false e = lt-ltb m n (leb-false n m e)

    -- ---- DATA: 26, 25 or delivered
    abbrev data_effect : Bool → Bool → Model → Effect
    data_effect short hit m =
        cond short (refuse m reply_too_small)
        (cond hit (taken m) (other m))

    arrival_of-data : (a : Peer) (x : ℕ) (p : Octets) (n : ℕ) → Sound (data_pdu x p)
        → arrival_of limit (model_of a) (encode (data_pdu x p)) n ≡ data_effect (ltb n (limit * max_packet)) (eqb x a.receiver.expected) (model_of a)
    unfolding arrival_of
    arrival_of-data a x p n h =
        ap (cond (ltb n (limit * max_packet)) (refuse (model_of a) reply_too_small)) (ap (packet_step (model_of a)) (kind_of_data x p h) ∙ data_open (model_of a) (state_of a.sender.queue) x (is_open_lem a.sender.queue))

    data_becomes : (a : Peer) → Fits (model_of a) → (x : ℕ) (p : Octets) (short hit : Bool)
        → Arrival model_of (data_pdu x p) (data_effect short hit (model_of a)) a (cond (not short) (take_data (rules edition limit) hit p a) a)
    data_becomes a f x p true hit = becomes_same reply_too_small (λ e. omega (arith, e))
    data_becomes a f x p false true = becomes_answer (rules edition limit) (delivering p a.receiver) refl (λ e. omega (arith, e)) refl refl (dack_number-below edition (advance a.receiver.expected 1) (omega arith))
    data_becomes a f x p false false =
        becomes_answer (rules edition limit) a.receiver refl (λ e. omega (arith, e)) refl (sym (append-nil a.receiver.delivered)) (dack_number-below edition a.receiver.expected f.expected)

    -- ---- DACK: 26, 24 or slots freed
    abbrev dack_effect : Bool → Bool → Model → ℕ → Effect
    dack_effect short some m d = cond short (refuse m reply_too_small) (cond some (effect done [] (without m d)) (refuse m no_entry))

    -- a queue without payloads is acknowledged by no distance
    none_queued : (d : ℕ) → acknowledges d [] ≡ false
    none_queued zero = refl
    none_queued (suc d) = rw (leb-suc-zero d) (and_false (leb 1 (suc d)))

    dack_open : (m : Model) (q : Packets) (x : ℕ) → m.queue ≡ q
        → dack_step m (state_of q) x ≡ cond (acknowledges (distance_of m x) q) (effect done [] (without m (distance_of m x))) (refuse m no_entry)
    dack_open m [] x e = rw (none_queued (distance_of m x))
    dack_open m (p ∷ q) x e =
        let d : ℕ = distance_of m x in
        ap (λ (t : Packets). cond (ltb 0 d && leb d (length t)) (effect done [] (without m d)) (refuse m no_entry)) e

    arrival_of-dack : (a : Peer) (x : ℕ) (n : ℕ) → x < modulus
        → arrival_of limit (model_of a) (encode (dack_pdu x)) n
        ≡ dack_effect (ltb n (limit * max_packet)) (acknowledges ((rules edition limit).distance a.sender.base x) a.sender.queue) (model_of a) ((rules edition limit).distance a.sender.base x)
    unfolding arrival_of
    arrival_of-dack a x n h =
        ap (cond (ltb n (limit * max_packet)) (refuse (model_of a) reply_too_small)) (ap (packet_step (model_of a)) (kind_of_dack x h) ∙ dack_open (model_of a) a.sender.queue x refl)

    dack_becomes : (a : Peer) (x d : ℕ) (short some : Bool)
        → Arrival model_of (dack_pdu x) (dack_effect short some (model_of a) d) a
        (with_sender (cond (not short) (cond some (freed d a.sender) a.sender) (lost_one a.sender)) a)
    dack_becomes a x d true some =
        becomes_sender (lost_one a.sender) refl (λ e. omega (arith, e)) refl refl refl (omega arith)
    dack_becomes a x d false false = becomes_same no_entry (λ e. omega (arith, e))
    dack_becomes a x d false true =
        becomes_sender (freed d a.sender) refl (λ e. omega (arith, e)) refl refl refl (omega arith)

    -- ---- all of them
    arrival_becomes : (a : Peer) → Fits (model_of a) → (k : Packet) → Sound k → (before : Octets)
        → Arrival model_of k (arrival_of limit (model_of a) (encode k) (length before)) a (reached (rules edition limit) (not (too_short limit before)) k a)
    arrival_becomes a f (data_pdu x p) h before =
        subst (λ (d : Effect). Arrival model_of (data_pdu x p) d a (reached (rules edition limit) (not (too_short limit before)) (data_pdu x p) a)) (sym (arrival_of-data a x p (length before) h))
        (data_becomes a f x p (too_short limit before) (eqb x a.receiver.expected))
    arrival_becomes a f (dack_pdu x) h before =
        let d = (rules edition limit).distance a.sender.base x in
        subst (λ (d : Effect). Arrival model_of (dack_pdu x) d a (reached (rules edition limit) (not (too_short limit before)) (dack_pdu x) a)) (sym (arrival_of-dack a x (length before) h))
        (dack_becomes a x d (too_short limit before) (acknowledges d a.sender.queue))

    refused_short : (a : Peer) (k : Packet) → Sound k → (before : Octets)
        → eqb (arrival_of limit (model_of a) (encode k) (length before)).code reply_too_small ≡ too_short limit before
    refused_short a (data_pdu x p) h before =
        ap (λ (d : Effect). eqb d.code reply_too_small) (arrival_of-data a x p (length before) h) ∙ by_case (too_short limit before) (eqb x a.receiver.expected)
      where
        by_case : (short hit : Bool) → eqb (data_effect short hit (model_of a)).code reply_too_small ≡ short
        by_case true hit = refl
        by_case false true = refl
        by_case false false = refl
    refused_short a (dack_pdu x) h before =
        let d = (rules edition limit).distance a.sender.base x in
        ap (λ (d : Effect). eqb d.code reply_too_small) (arrival_of-dack a x (length before) h) ∙ by_case (too_short limit before) (acknowledges d a.sender.queue)
      where
        by_case : (short some : Bool) → eqb (dack_effect short some (model_of a) ((rules edition limit).distance a.sender.base x)).code reply_too_small ≡ short
        by_case true some = refl
        by_case false true = refl
        by_case false false = refl

    pub simulates : Simulates limit (rules edition limit) model_of
    simulates = record {
      window = refl;
      holds = opened_fits;
      queue = λ a. refl;
      relined = λ ks n a. refl;
      start = λ a before. subst (λ (d : Effect). Bare model_of d a a) (sym (start_of_open a (length before))) (start_becomes a (too_short limit before));
      timer = λ a f before.
          subst (λ (d : Effect). Bare model_of d a (timed_out (rules edition limit) (not (too_short limit before)) a)) (sym (timer_of-open a (length before)))
          (timer_becomes a f (too_short limit before) (ltb 0 (length a.sender.queue)));
      payload = λ a p before.
          subst (λ (d : Effect). Offer model_of p d a (offered (rules edition limit) (passes limit p before) p a)) (sym (payload_of-open a p (length before)))
          (rw (ltb_not_leb (length a.sender.queue) limit)
          (payload_becomes a p (too_short limit before) (ltb max_payload (length p)) (leb limit (length a.sender.queue))
          (ltb-false max_payload (length p))));
      arrival = arrival_becomes;
      refused = refused_short;
    }

  -- ---- on the way to an open link, where the reply buffer is large enough
  abbrev pub resetting : Model
  resetting = in_state Reset (fresh edition)

  pub resetting_fits : Fits resetting
  resetting_fits = fits_rebuilt (fresh edition) (fits_fresh edition) Reset [] 0 0 (omega arith) tt (omega arith) (omega arith) refl

  module _ (n : ℕ) (h : reply_size ≤ n) where
    pub start_of_fresh : start_of slots (fresh edition) n ≡ effect done [] resetting
    unfolding start_of
    start_of_fresh = rw (le-ltb n reply_size h)

    pub timer_of-resetting : timer_of slots resetting n ≡ effect done (reset_packet ∷ []) resetting
    unfolding timer_of
    timer_of-resetting = rw (le-ltb n reply_size h)

    pub arrival_of-reset : (m : Model) → m.ok ≡ true → arrival_of slots m reset_packet n ≡ cleared m
    unfolding arrival_of
    arrival_of-reset m e = rw (e, le-ltb n reply_size h)

    pub arrival_of-reset_ack : arrival_of slots resetting reset_ack_packet n ≡ effect done [] (opened edition)
    unfolding arrival_of
    arrival_of-reset_ack = rw (le-ltb n reply_size h)

-- ---- RESET keeps the edition
pub cleared_opened : (m : Model) → m.ok ≡ true → (cleared m).after ≡ opened m.edition
cleared_opened m e = rw e
