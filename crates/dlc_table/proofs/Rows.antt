-- Laws of the step table's rows, for whoever comes to one by tests. Assumes nothing.
use Prim.Native.Nat.{ℕ, suc, ◌<◌}
use native.Mathlib.Omega.{arith}
use mathlib.Core.Path.{◌≡◌, refl, sym, ap, ◌∙◌}
use mathlib.Core.Bool.{Bool, true, false, cond, ◌&&◌, false≢true}
use mathlib.Core.Logic.{◌⊎◌, inl, inr}
use mathlib.Core.List.{List, [], ◌∷◌, ◌++◌}
use lib.ListN.{length}
use lib.Dec.{ltb, leb}
use borrow.Author.Tests.{eq-eqb, ne_eqb}
use Rattle.dlc_packet.specs.Numbers.{modulus, advance, edition1, edition_of, known_edition}
use Rattle.dlc_packet.specs.Packet.{data_packet, data_packets}
use Rattle.dlc_table.specs.declared.State.{State}
use Rattle.dlc_table.specs.declared.State.TheVariants.{Idle, Reset, Data, Wait}
use Rattle.dlc_table.specs.Answers.{done, no_entry, other_number, bad_edition}
use Rattle.dlc_table.specs.Model.{Model, fresh}
use Rattle.dlc_table.specs.Events.{Effect, effect, refuse, made_of, start_step, expect_next, dack_of, judged, data_step, is_open, without, distance_of, acknowledged, reset_ack_step, dack_step, timer_step, with_payload, queued}

-- a link is made, by whether its edition is known
pub made_known : (n : ℕ) → known_edition n ≡ true → made_of n ≡ effect done [] (fresh (edition_of n))
unfolding made_of
made_known n e = rw e

pub made_unknown : (n : ℕ) → known_edition n ≡ false → made_of n ≡ refuse (fresh edition1) bad_edition
unfolding made_of
made_unknown n e = rw e

-- start and the timer where the table has no entry
pub start_none : (m : Model) (s : State) → s ≡ Reset ⊎ (s ≡ Data ⊎ s ≡ Wait) → start_step m s ≡ refuse m no_entry
start_none m s (inl e) = ap (λ (s : State). start_step m s) e
start_none m s (inr (inl e)) = ap (λ (s : State). start_step m s) e
start_none m s (inr (inr e)) = ap (λ (s : State). start_step m s) e

pub timer_none : (m : Model) (s : State) → s ≡ Idle ⊎ s ≡ Data → timer_step m s ≡ refuse m no_entry
timer_none m s (inl e) = ap (λ (s : State). timer_step m s) e
timer_none m s (inr e) = ap (λ (s : State). timer_step m s) e

-- DATA with the expected number, and with another
abbrev pub taken : Model → Effect
taken m = record { code = done; upper_reset = false; delivered = true; packets = dack_of (expect_next m) ∷ []; after = expect_next m }

abbrev pub other : Model → Effect
other m = effect other_number (dack_of m ∷ []) m

pub judged_same : (m : Model) (x : ℕ) → x ≡ m.expected → judged m x ≡ taken m
judged_same m x e = rw (eq-eqb x m.expected e)

pub judged_other : (m : Model) (x : ℕ) → (x ≡ m.expected → ⊥) → judged m x ≡ other m
judged_other m x e = rw (ne_eqb x m.expected e)

pub data_open : (m : Model) (s : State) (x : ℕ) → is_open s ≡ true → data_step m s x ≡ judged m x
data_open m Idle x h = absurd (false≢true h)
data_open m Reset x h = absurd (false≢true h)
data_open m Data x h = refl
data_open m Wait x h = refl

pub data_closed : (m : Model) (s : State) (x : ℕ) → is_open s ≡ false → data_step m s x ≡ refuse m no_entry
data_closed m Idle x h = refl
data_closed m Reset x h = refl
data_closed m Data x h = absurd (false≢true (sym h))
data_closed m Wait x h = absurd (false≢true (sym h))

module _ (m : Model) (n : ℕ) where
  cond_silent : (b : Bool) (x y : Effect) → x.packets ≡ [] → y.packets ≡ [] → (cond b x y).packets ≡ []
  cond_silent true x y p q = p
  cond_silent false x y p q = q

  pub acknowledged_silent : (acknowledged m n).packets ≡ []
  acknowledged_silent = cond_silent (ltb 0 n && leb n (length m.queue)) (effect done [] (without m n)) (refuse m no_entry) refl refl

-- RESET_ACK and DACK send nothing
pub reset_ack_silent : (m : Model) (s : State) → (reset_ack_step m s).packets ≡ []
reset_ack_silent m Idle = refl
reset_ack_silent m Reset = refl
reset_ack_silent m Data = refl
reset_ack_silent m Wait = refl

pub dack_silent : (m : Model) (s : State) (x : ℕ) → (dack_step m s x).packets ≡ []
dack_silent m Idle x = refl
dack_silent m Reset x = refl
dack_silent m Data x = refl
dack_silent m Wait x = acknowledged_silent m (distance_of m x)

-- ---- what is sent at once is what the timer sends again
advance_on : (x n : ℕ) → advance (advance x 1) n ≡ advance x (suc n)
advance_on x n = omega arith

packets_behind : (x : ℕ) (q : List (List ℕ)) (p : List ℕ) → x < modulus
    → data_packets x (q ++ (p ∷ [])) ≡ data_packets x q ++ (data_packet (advance x (length q)) p ∷ [])
packets_behind x [] p h = ap (λ (n : ℕ). data_packet n p ∷ []) (omega arith)
packets_behind x (r ∷ q) p h =
    ap (λ (ks : List (List ℕ)). data_packet x r ∷ ks)
    (packets_behind (advance x 1) q p (omega arith)
    ∙ ap (λ (n : ℕ). data_packets (advance x 1) q ++ (data_packet n p ∷ [])) (advance_on x (length q)))

-- of a queue with a payload more, the timer sends what it sent of the queue, and then the very packet that was sent when the payload was queued
pub timer_repeats : (m : Model) (p : List ℕ) → m.base < modulus → (timer_step (with_payload m p) Wait).packets ≡ (timer_step m Wait).packets ++ (queued m p).packets
timer_repeats m p h = packets_behind m.base m.queue p h
