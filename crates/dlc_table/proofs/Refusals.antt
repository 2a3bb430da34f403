-- Laws of the refusals that all calls share, and of those of a payload. Assumes nothing.
use Prim.Native.Nat.{ℕ, ◌≤◌, ◌*◌}
use native.Mathlib.Omega.{arith}
use mathlib.Core.Path.{◌≡◌, refl, sym, ap, ◌∙◌}
use mathlib.Core.Bool.{Bool, true, false, not}
use mathlib.Core.List.{List, [], ◌∷◌, ◌++◌}
use lib.ListN.{length}
use lib.Dec.{ltb, leb}
use borrow.Author.Tests.{le-ltb, le-leb, ltb-false, not-false}
use Rattle.common.specs.Refusals.{Refusal, guarded}
use Rattle.dlc_packet.specs.Packet.{max_payload, max_packet, kind_of}
use Rattle.dlc_packet.specs.declared.Kind.{Kind}
use Rattle.dlc_table.specs.Answers.{done, not_open, payload_too_long, queue_full, reply_too_small, bad_link}
use Rattle.dlc_table.specs.Model.{Model}
use Rattle.dlc_table.specs.Events.{Effect, refuse, queued, is_open, call_refusals, payload_refusals}
use Rattle.dlc_table.specs.Events.{start_of, timer_of, payload_of, arrival_of, start_step, timer_step, packet_step}
use Rattle.dlc_table.specs.declared.State.{State}
use Rattle.dlc_table.specs.declared.Refusal.{Refusal as Refused}
use Rattle.dlc_table.specs.declared.Refusal.TheVariants.{NotOpen, PayloadTooLong, QueueFull, BadPacket, NoEntry, ReplyTooSmall, BadLink, BadEdition}
use Rattle.dlc_table.specs.Refused.{number_of}

-- no refusal has the number of done
pub refusal_not_done : (r : Refused) → number_of r ≡ done → ⊥
refusal_not_done NotOpen e = omega (arith, e)
refusal_not_done PayloadTooLong e = omega (arith, e)
refusal_not_done QueueFull e = omega (arith, e)
refusal_not_done BadPacket e = omega (arith, e)
refusal_not_done NoEntry e = omega (arith, e)
refusal_not_done ReplyTooSmall e = omega (arith, e)
refusal_not_done BadLink e = omega (arith, e)
refusal_not_done BadEdition e = omega (arith, e)

-- the two refusals by their tests: a number that is one of them is the refusal; 0 is none, and what comes after them is done
first : (a b : Bool) (ts : List Refusal) (d : Effect) (f : ℕ → Effect) (c : ℕ) → guarded ((a, bad_link) ∷ (b, reply_too_small) ∷ []) (λ n. n) done ≡ c → (c ≡ done → ⊥)
    → guarded ((a, bad_link) ∷ (b, reply_too_small) ∷ ts) f d ≡ f c
first true b ts d f c e n = ap f e
first false true ts d f c e n = ap f e
first false false ts d f c e n = absurd (n (sym e))

none : (a b : Bool) → guarded ((a, bad_link) ∷ (b, reply_too_small) ∷ []) (λ n. n) done ≡ done → (a ≡ false) × (b ≡ false)
none true b e = absurd (omega (arith, e))
none false true e = absurd (omega (arith, e))
none false false e = (refl, refl)

module _ (limit : ℕ) (m : Model) (room : ℕ) where
  -- what the shared refusals answer
  abbrev pub answered : ℕ
  answered = guarded (call_refusals limit m room) (λ n. n) done

  pub call_refused : (ts : List Refusal) (d : Effect) (c : ℕ) → c ≡ answered → (c ≡ done → ⊥) → guarded (call_refusals limit m room ++ ts) (refuse m) d ≡ refuse m c
  call_refused ts d c e n = first (not m.ok) (ltb room (limit * max_packet)) ts d (refuse m) c (sym e) n

  pub call_ok : (c : ℕ) → c ≡ answered → c ≡ done → m.ok ≡ true
  call_ok c e n = not-false m.ok (none (not m.ok) (ltb room (limit * max_packet)) (sym e ∙ n)).0

  pub call_room : (c : ℕ) → c ≡ answered → c ≡ done → limit * max_packet ≤ room
  call_room c e n = ltb-false room (limit * max_packet) (none (not m.ok) (ltb room (limit * max_packet)) (sym e ∙ n)).1

  pub call_passed : (ts : List Refusal) (d : Effect) (c : ℕ) → c ≡ answered → c ≡ done → guarded (call_refusals limit m room ++ ts) (refuse m) d ≡ guarded ts (refuse m) d
  call_passed ts d c e n = rw (call_ok c e n, le-ltb _ _ (call_room c e n))

-- each event by its refusals and its row, where c is what the shared refusals answer
module _ (limit : ℕ) (m : Model) (room c : ℕ) (e : c ≡ answered limit m room) where
  module _ (n : c ≡ done → ⊥) where
    pub start_refused : start_of limit m room ≡ refuse m c
    unfolding start_of
    start_refused = call_refused limit m room [] (start_step m m.state) c e n

    pub timer_refused : timer_of limit m room ≡ refuse m c
    unfolding timer_of
    timer_refused = call_refused limit m room [] (timer_step m m.state) c e n

    pub payload_refused : (p : List ℕ) → payload_of limit m p room ≡ refuse m c
    unfolding payload_of
    payload_refused p = call_refused limit m room (payload_refusals limit m p) (queued m p) c e n

    pub arrival_refused : (packet : List ℕ) → arrival_of limit m packet room ≡ refuse m c
    unfolding arrival_of
    arrival_refused packet = call_refused limit m room [] (packet_step m (kind_of packet)) c e n

  module _ (z : c ≡ done) where
    pub start_step_lem : (s : State) → m.state ≡ s → start_of limit m room ≡ start_step m s
    unfolding start_of
    start_step_lem s h = call_passed limit m room [] (start_step m m.state) c e z ∙ ap (λ (s : State). start_step m s) h

    pub timer_step_lem : (s : State) → m.state ≡ s → timer_of limit m room ≡ timer_step m s
    unfolding timer_of
    timer_step_lem s h = call_passed limit m room [] (timer_step m m.state) c e z ∙ ap (λ (s : State). timer_step m s) h

    pub arrival_step : (packet : List ℕ) (k : Kind) → kind_of packet ≡ k → arrival_of limit m packet room ≡ packet_step m k
    unfolding arrival_of
    arrival_step packet k h = call_passed limit m room [] (packet_step m (kind_of packet)) c e z ∙ ap (λ (k : Kind). packet_step m k) h

-- a payload, where the number of its first refusal is known, and where none applies
stopped : (ts : List Refusal) (d : Effect) (f : ℕ → Effect) (c : ℕ) → c ≡ guarded ts (λ n. n) done → (c ≡ done → ⊥) → guarded ts f d ≡ f c
stopped [] d f c e n = absurd (n e)
stopped ((true, k) ∷ ts) d f c e n = ap f (sym e)
stopped ((false, k) ∷ ts) d f c e n = stopped ts d f c e n

passed : (a b x y z : Bool) (d : Effect) (f : ℕ → Effect)
    → done ≡ guarded ((a, bad_link) ∷ (b, reply_too_small) ∷ (x, payload_too_long) ∷ (y, not_open) ∷ (z, queue_full) ∷ []) (λ n. n) done
    → guarded ((a, bad_link) ∷ (b, reply_too_small) ∷ (x, payload_too_long) ∷ (y, not_open) ∷ (z, queue_full) ∷ []) f d ≡ d
passed true b x y z d f e = absurd (omega (arith, e))
passed false true x y z d f e = absurd (omega (arith, e))
passed false false true y z d f e = absurd (omega (arith, e))
passed false false false true z d f e = absurd (omega (arith, e))
passed false false false false true d f e = absurd (omega (arith, e))
passed false false false false false d f e = refl

module _ (limit : ℕ) (m : Model) (p : List ℕ) (room : ℕ) where
  -- what a payload call's refusals answer
  abbrev pub payload_answered : ℕ
  payload_answered = guarded (call_refusals limit m room ++ payload_refusals limit m p) (λ n. n) done

  pub payload_stopped : (c : ℕ) → c ≡ payload_answered → (c ≡ done → ⊥) → payload_of limit m p room ≡ refuse m c
  unfolding payload_of
  payload_stopped c e n = stopped (call_refusals limit m room ++ payload_refusals limit m p) (queued m p) (refuse m) c e n

  pub payload_passed : done ≡ payload_answered → payload_of limit m p room ≡ queued m p
  unfolding payload_of
  payload_passed e =
      passed (not m.ok) (ltb room (limit * max_packet)) (ltb max_payload (length p)) (not (is_open m.state)) (leb limit (length m.queue)) (queued m p) (refuse m) e

  -- a full queue is what is asked last
  pub payload_full : done ≡ answered limit m room → length p ≤ max_payload → is_open m.state ≡ true → limit ≤ length m.queue → queue_full ≡ payload_answered
  payload_full e h o f = simp (call_ok limit m room done e refl, le-ltb _ _ (call_room limit m room done e refl), le-ltb _ _ h, o, le-leb _ _ f)
