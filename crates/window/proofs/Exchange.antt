-- Arrivals one after another, and an exchange: one timer call with nothing on the lines, the arrivals of what it sent and those of the DACKs.
-- What they leave on the lines, and that a trail leads through them. Assumes nothing.
use Prim.Native.Nat.{ℕ, zero, suc, ◌+◌, ◌-◌, ◌≤◌}
use mathlib.Core.Path.{◌≡◌, refl, sym, ap, ◌∙◌}
use mathlib.Core.Bool.{true}
use mathlib.Core.List.{List, [], ◌∷◌, ◌++◌}
use native.Mathlib.Omega.{arith}
use lib.Dec.{ltb}
use lib.ListN.{length, length-append, replicate}
use borrow.Author.Tests.{ltb-false}
use Rattle.common.proofs.Bools.{either}
use Rattle.window.specs.Sides.{left, right, Both, mirror}
use Rattle.window.specs.Packets.{Payloads, Packet, data_pdu, dack_pdu, count_data, count_dack, numbered, advance}
use Rattle.window.specs.Ends.{Rules, Lawful, Sender, End, acknowledges}
use Rattle.window.specs.Events.{timeout, receive, Event, arrive, step, run, Drained}
use Rattle.window.specs.Claim.{exchange}
use Rattle.window.proofs.Flow.{Assumed}
use Rattle.window.proofs.Invariant.{Invariant, invariant_mirror, invariant_weaken, invariant_send_all, invariant_idle}
use Rattle.window.proofs.Receive.{invariant_arrive}

-- ---- lists
pub nil_of : {A : Type 0} (l : List A) → length l ≤ 0 → l ≡ []
nil_of [] h = refl
nil_of (x ∷ l) h = absurd (omega (arith, h))

length-numbered : (x : ℕ) (q : Payloads) → length (numbered x q) ≡ length q
length-numbered x [] = refl
length-numbered x (p ∷ q) = ap suc (length-numbered (advance x 1) q)

count_data-dack : (ks : List Packet) (x : ℕ) → count_data (ks ++ (dack_pdu x ∷ [])) ≡ count_data ks
count_data-dack [] x = refl
count_data-dack (data_pdu y p ∷ ks) x = ap suc (count_data-dack ks x)
count_data-dack (dack_pdu y ∷ ks) x = count_data-dack ks x

module _ (r : Rules) where
  pub run-++ : (es fs : List Event) (s : Both End) → run r (es ++ fs) s ≡ run r fs (run r es s)
  run-++ [] fs s = refl
  run-++ (e ∷ es) fs s = run-++ es fs _

  -- ---- n arrivals at the left end
  abbrev pub receives : ℕ → Both End → Both End
  receives zero s = s
  receives (suc n) s = receives n (arrive r true s.right.line s)

  pub run_left : (n : ℕ) (s : Both End) → run r (replicate n (record { side = left; act = receive true })) s ≡ receives n s
  run_left zero s = refl
  run_left (suc n) s = run_left n _

  pub run_right : (n : ℕ) (s : Both End) → run r (replicate n (record { side = right; act = receive true })) s ≡ mirror (receives n (mirror s))
  run_right zero s = refl
  run_right (suc n) s = run_right n _

  -- an exchange of the right end is one of the left end in the mirror
  pub exchange_mirror : (k m : ℕ) (s : Both End) → run r (exchange right k m) s ≡ mirror (run r (exchange left k m) (mirror s))
  exchange_mirror k m s =
      run-++ (replicate k (record { side = left; act = receive true })) (replicate m (record { side = right; act = receive true })) _
      ∙ ap (run r (replicate m (record { side = right; act = receive true }))) (run_left k _)
      ∙ run_right m _
      ∙ sym (ap mirror (run-++ (replicate k (record { side = right; act = receive true })) (replicate m (record { side = left; act = receive true })) _
      ∙ ap (run r (replicate m (record { side = left; act = receive true }))) (run_right k _)
      ∙ run_left m _))

  -- what n arrivals at the left end leave: n packets fewer on the incoming line, at most n more on the outgoing one and no DATA among them,
  -- and the same payloads accepted
  pub record Received (n : ℕ) (s t : Both End) : Type 0 where
    pub incoming : length t.right.line ≡ length s.right.line - n
    pub outgoing : length t.left.line ≤ length s.left.line + n
    pub no_data : count_data t.left.line ≡ count_data s.left.line
    pub left_accepted : t.left.sender.accepted ≡ s.left.sender.accepted
    pub right_accepted : t.right.sender.accepted ≡ s.right.sender.accepted

  received_nothing : (s : Both End) → Received 0 s s
  received_nothing s = record { incoming = omega arith; outgoing = omega arith; no_data = refl; left_accepted = refl; right_accepted = refl }

  received_one : (ks : List Packet) (s : Both End) → s.right.line ≡ ks → Received 1 s (arrive r true ks s)
  received_one [] s e = record {
    incoming = omega (arith, ap length e);
    outgoing = omega arith;
    no_data = refl;
    left_accepted = refl;
    right_accepted = refl;
  }
  received_one (data_pdu x p ∷ ks) s e = record {
    incoming = omega (arith, ap length e);
    outgoing = simp length-append (omega arith);
    no_data = count_data-dack s.left.line _;
    left_accepted = refl;
    right_accepted = refl;
  }
  received_one (dack_pdu x ∷ ks) s e = record {
    incoming = omega (arith, ap length e);
    outgoing = omega arith;
    no_data = refl;
    left_accepted = either (λ (y : Sender). y.accepted ≡ s.left.sender.accepted)
        (acknowledges (r.distance s.left.sender.base x) s.left.sender.queue) (λ b. refl) (λ b. refl);
    right_accepted = refl;
  }

  pub received_all : (n : ℕ) (s : Both End) → Received n s (receives n s)
  received_all zero s = received_nothing s
  received_all (suc n) s =
      let a = received_one s.right.line s refl in
      let b = received_all n (arrive r true s.right.line s) in
      record {
        incoming = omega (arith, a.incoming, b.incoming);
        outgoing = omega (arith, a.outgoing, b.outgoing);
        no_data = b.no_data ∙ a.no_data;
        left_accepted = b.left_accepted ∙ a.left_accepted;
        right_accepted = b.right_accepted ∙ a.right_accepted;
      }

  -- where no DATA arrives, nothing is sent
  only_dacks : (ks : List Packet) (s : Both End) → s.right.line ≡ ks → count_data ks ≡ 0
      → ((arrive r true ks s).left.line ≡ s.left.line) × (count_data (arrive r true ks s).right.line ≡ 0)
  only_dacks [] s e h = (refl, ap count_data e)
  only_dacks (data_pdu x p ∷ ks) s e h = absurd (omega (arith, h))
  only_dacks (dack_pdu x ∷ ks) s e h = (refl, h)

  pub receives_dacks : (n : ℕ) (s : Both End) → count_data s.right.line ≡ 0 → (receives n s).left.line ≡ s.left.line
  receives_dacks zero s h = refl
  receives_dacks (suc n) s h =
      let one = only_dacks s.right.line s refl h in
      receives_dacks n (arrive r true s.right.line s) one.1 ∙ one.0

  module _ (law : Lawful r) where
    pub invariant_receives : (n : ℕ) {a b : Assumed} (s : Both End) → Invariant r a b s → Invariant r a b (receives n s)
    invariant_receives zero s v = v
    invariant_receives (suc n) s v = invariant_receives n _ (invariant_arrive r law s v)

    -- ---- the timer: at most the queue is on the line, and a trail has begun
    abbrev pub begun : Assumed
    begun = record { waited = ⊥; intact = Unit {0} }

    record Begun (b : Assumed) (s t : Both End) : Type 0 where
      holds : Invariant r begun b t
      outgoing : length t.left.line ≤ length s.left.sender.queue
      incoming : t.right.line ≡ []
      left_accepted : t.left.sender.accepted ≡ s.left.sender.accepted
      right_accepted : t.right.sender.accepted ≡ s.right.sender.accepted

    timer_begins : {a b : Assumed} (s : Both End) → Invariant r a b s → s.left.line ≡ [] → s.right.line ≡ [] → Begun b s (step r (timeout true) s)
    timer_begins {a} {b} s v el er = either (Begun b s) (ltb 0 (length s.left.sender.queue))
        (λ e. record {
          holds = invariant_weaken r (λ u. absurd u) (λ u. drained) (λ u. u) (λ u. u) (invariant_send_all r s v);
          outgoing = rw el (omega (arith, length-numbered s.left.sender.base s.left.sender.queue));
          incoming = er;
          left_accepted = refl;
          right_accepted = refl;
        })
        (λ e. record {
          holds = invariant_weaken r (λ u. absurd u) (λ u. u) (λ u. u) (λ u. u) (invariant_idle r s v (nil_of s.left.sender.queue (ltb-false 0 _ e)) drained);
          outgoing = rw el (omega arith);
          incoming = er;
          left_accepted = refl;
          right_accepted = refl;
        })
      where
        drained : Drained s
        drained = (ap count_data el, ap count_dack er)

    -- ---- an exchange of the left end, from s to z: the trail still leads, both lines are empty, and nothing more is accepted
    pub record Exchanged (b : Assumed) (s z : Both End) : Type 0 where
      pub holds : Invariant r begun b z
      pub left_line : z.left.line ≡ []
      pub right_line : z.right.line ≡ []
      pub left_accepted : z.left.sender.accepted ≡ s.left.sender.accepted
      pub right_accepted : z.right.sender.accepted ≡ s.right.sender.accepted

    pub exchanged : {a b : Assumed} (s : Both End) → Invariant r a b s → s.left.line ≡ [] → s.right.line ≡ [] → (k m : ℕ)
        → length s.left.sender.queue ≤ k
        → k ≤ m
        → Exchanged b s (run r (exchange left k m) s)
    exchanged {a} {b} s v el er k m hk hm = rw path (record {
      holds = invariant_receives m u (invariant_mirror r (invariant_receives k (mirror t) (invariant_mirror r first.holds)));
      left_line = receives_dacks m u (second.no_data ∙ ap count_data first.incoming) ∙ nil_of u.left.line (omega (arith, second.incoming, first.outgoing));
      right_line = nil_of z.right.line (omega (arith, third.incoming, second.outgoing, ap length first.incoming));
      left_accepted = third.left_accepted ∙ second.right_accepted ∙ first.left_accepted;
      right_accepted = third.right_accepted ∙ second.left_accepted ∙ first.right_accepted;
    })
      where
        t : Both End
        t = step r (timeout true) s

        u : Both End
        u = mirror (receives k (mirror t))

        z : Both End
        z = receives m u

        path : run r (exchange left k m) s ≡ z
        path = run-++ (replicate k (record { side = right; act = receive true })) (replicate m (record { side = left; act = receive true })) t
            ∙ ap (run r (replicate m (record { side = left; act = receive true }))) (run_right k t)
            ∙ run_left m u

        first : Begun b s t
        first = timer_begins s v el er

        second : Received k (mirror t) (receives k (mirror t))
        second = received_all k (mirror t)

        third : Received m u z
        third = received_all m u
