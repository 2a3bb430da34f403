-- No shorter run: of the step table from two open ends of different editions, all lists of up to three events of the kinds of specs/Choices keep what
-- demand 3 claims. By a search that the prover computes, over tests of the claim and of its premise; the run of four events that breaks the bound is
-- `unsettled` (Editions). Assumes nothing.
use Prim.Native.Nat.{ℕ, zero, suc, ◌+◌, ◌*◌, ◌≤◌}
use native.Mathlib.Omega.{arith}
use mathlib.Core.Path.{◌≡◌, refl}
use mathlib.Core.Bool.{Bool, true, false, ◌&&◌, ◌||◌, not, false≢true}
use mathlib.Core.List.{List, [], ◌∷◌, IsPrefix}
use lib.ListN.{length}
use lib.Dec.{leb, eqb}
use borrow.Author.Tests.{eq-eqb, leb-true, eqb-true}
use Rattle.common.proofs.Bools.{and_both}
use Rattle.dlc_packet.specs.Numbers.{Edition, edition1, edition2}
use Rattle.dlc_table.specs.Answers.{bad_link}
use Rattle.dlc_table.specs.Model.{Model}
use Rattle.dlc_table.specs.Events.{timer_of, payload_of, arrival_of}
use Rattle.dlc.specs.Limits.{slots}
use Rattle.dlc_run.specs.Replies.{Octets, Packets, is_data, is_dack, Never}
use Rattle.window.specs.Sides.{Side, left, right, opposite, end_at}
use Rattle.dlc_pair.specs.World.{count, End, World, data_sent}
use Rattle.dlc_pair.specs.History.{WaitsAt}
use Rattle.dlc_pair.specs.Demand3.{OneWay}
use Rattle.dlc_pair.specs.TableRun.{open_ends}
use Rattle.dlc_worked.specs.Mixed.{other}
use Rattle.dlc_worked.specs.Choices.{Choice, offer, timeout, receive, lose_first, lose_second, lose_third, act_of, Move, moved, play, Waited, BothWays}

-- ---- the claim, as a test
abbrev same_octets : Octets → Octets → Bool
same_octets [] [] = true
same_octets [] (y ∷ q) = false
same_octets (x ∷ p) [] = false
same_octets (x ∷ p) (y ∷ q) = eqb x y && same_octets p q

abbrev begins : Packets → Packets → Bool
begins [] qs = true
begins (p ∷ ps) [] = false
begins (p ∷ ps) (q ∷ qs) = same_octets p q && begins ps qs

abbrev without : ℕ → List ℕ → Bool
without c [] = true
without c (x ∷ xs) = not (eqb x c) && without c xs

-- from a sender to its receiver, where it is said whether its timer has waited
abbrev one_way : Bool → End Model → End Model → Bool
one_way waited a b =
    begins b.delivered a.accepted
    && ((not waited || leb (data_sent a) (length a.accepted + slots * a.lost)) && without bad_link a.answers)

same_path : (p q : Octets) → same_octets p q ≡ true → p ≡ q
same_path [] [] e = refl
same_path [] (y ∷ q) e = absurd (false≢true e)
same_path (x ∷ p) [] e = absurd (false≢true e)
same_path (x ∷ p) (y ∷ q) e =
    let b = and_both (eqb x y) (same_octets p q) e in
    λ i. eqb-true x y b.0 i ∷ same_path p q b.1 i

begins_prefix : (ps qs : Packets) → begins ps qs ≡ true → IsPrefix ps qs
begins_prefix [] qs e = (qs, refl)
begins_prefix (p ∷ ps) [] e = absurd (false≢true e)
begins_prefix (p ∷ ps) (q ∷ qs) e =
    let b = and_both (same_octets p q) (begins ps qs) e in
    let t = begins_prefix ps qs b.1 in
    (t.0, λ i. same_path p q b.0 i ∷ t.1 i)

without_never : (c : ℕ) (xs : List ℕ) → without c xs ≡ true → Never c xs
without_never c [] e = tt
without_never c (x ∷ xs) e =
    let b = and_both (not (eqb x c)) (without c xs) e in
    ((λ z. not_both (eqb x c) b.0 (eq-eqb x c z)), without_never c xs b.1)
  where
    not_both : (t : Bool) → not t ≡ true → t ≡ true → ⊥
    not_both true n e = false≢true n
    not_both false n e = false≢true e

implied : (a b : Bool) → (not a || b) ≡ true → a ≡ true → b ≡ true
implied true b e h = e
implied false b e h = absurd (false≢true h)

one_way_lem : (l : Bool) (a b : End Model) → one_way l a b ≡ true → {P : Type 0} → (P → l ≡ true) → OneWay a b P
one_way_lem l a b e f =
    let x = and_both (begins b.delivered a.accepted) _ e in
    let y = and_both (not l || leb (data_sent a) (length a.accepted + slots * a.lost)) (without bad_link a.answers) x.1 in
    record {
      prefix = begins_prefix b.delivered a.accepted x.0;
      bound = λ t. leb-true (data_sent a) (length a.accepted + slots * a.lost) (implied l _ y.0 (f t));
      formed = without_never bad_link a.answers y.1;
    }

-- ---- its premise, as a test
abbrev is_timer : Choice → Bool
is_timer offer = false
is_timer timeout = true
is_timer receive = false
is_timer lose_first = false
is_timer lose_second = false
is_timer lose_third = false

abbrev same : Side → Side → Bool
same left left = true
same left right = false
same right left = false
same right right = true

abbrev drained : Side → World Model → Bool
drained d w = eqb (count is_data (end_at d w).line) 0 && eqb (count is_dack (end_at (opposite d) w).line) 0

abbrev waits : Side → Side → Choice → World Model → Bool
waits d d' c w = not (same d d' && is_timer c) || drained d w

none_left : (n k : ℕ) → n ≡ 0 → k ≡ 0 → (eqb n 0 && eqb k 0) ≡ true
none_left n k e f = λ i. eq-eqb n 0 e i && eq-eqb k 0 f i

waits_left : (c : Choice) (w : World Model) → WaitsAt left left (act_of c w.left) w → waits left left c w ≡ true
waits_left offer w h = refl
waits_left timeout w h = none_left _ _ h.0 h.1
waits_left receive w h = refl
waits_left lose_first w h = refl
waits_left lose_second w h = refl
waits_left lose_third w h = refl

waits_right : (c : Choice) (w : World Model) → WaitsAt right right (act_of c w.right) w → waits right right c w ≡ true
waits_right offer w h = refl
waits_right timeout w h = none_left _ _ h.0 h.1
waits_right receive w h = refl
waits_right lose_first w h = refl
waits_right lose_second w h = refl
waits_right lose_third w h = refl

waits_true : (d d' : Side) (c : Choice) (w : World Model) → WaitsAt d d' (act_of c (end_at d' w)) w → waits d d' c w ≡ true
waits_true left left c w h = waits_left c w h
waits_true left right c w h = refl
waits_true right left c w h = refl
waits_true right right c w h = waits_right c w h

-- ---- the search; l and r say whether the timers of the left and of the right end have waited so far
abbrev kept : Bool → Bool → World Model → Bool
kept l r w = one_way l w.left w.right && one_way r w.right w.left

abbrev every : (Choice → Bool) → Bool
every f = f offer && (f timeout && (f receive && (f lose_first && (f lose_second && f lose_third))))

-- what f says of the world after an event at an end
abbrev deeper : (Bool → Bool → World Model → Bool) → Bool → Bool → World Model → Side → Choice → Bool
deeper f l r w d c = f (l && waits left d c w) (r && waits right d c w) (moved d c w)

searched : ℕ → Bool → Bool → World Model → Bool
searched zero l r w = kept l r w
searched (suc n) l r w = kept l r w && (every (deeper (searched n) l r w left) && every (deeper (searched n) l r w right))

-- ---- it goes over every list
behind_receive : (f : Choice → Bool) → every f ≡ true → (f lose_first && (f lose_second && f lose_third)) ≡ true
behind_receive f e = (and_both (f receive) _ (and_both (f timeout) _ (and_both (f offer) _ e).1).1).1

every_true : (f : Choice → Bool) → every f ≡ true → (c : Choice) → f c ≡ true
every_true f e offer = (and_both (f offer) _ e).0
every_true f e timeout = (and_both (f timeout) _ (and_both (f offer) _ e).1).0
every_true f e receive = (and_both (f receive) _ (and_both (f timeout) _ (and_both (f offer) _ e).1).1).0
every_true f e lose_first = (and_both (f lose_first) _ (behind_receive f e)).0
every_true f e lose_second = (and_both (f lose_second) (f lose_third) (and_both (f lose_first) _ (behind_receive f e)).1).0
every_true f e lose_third = (and_both (f lose_second) (f lose_third) (and_both (f lose_first) _ (behind_receive f e)).1).1

next_searched : (n : ℕ) (l r : Bool) (w : World Model) → searched (suc n) l r w ≡ true → (d : Side) (c : Choice) → deeper (searched n) l r w d c ≡ true
unfolding searched
next_searched n l r w e d c = every_true (deeper (searched n) l r w d) (at_side d) c
  where
    both : (every (deeper (searched n) l r w left) ≡ true) × (every (deeper (searched n) l r w right) ≡ true)
    both = and_both (every (deeper (searched n) l r w left)) (every (deeper (searched n) l r w right)) (and_both (kept l r w) _ e).1

    at_side : (d : Side) → every (deeper (searched n) l r w d) ≡ true
    at_side left = both.0
    at_side right = both.1

both_ways : (l r : Bool) (w : World Model) → kept l r w ≡ true → {P Q : Type 0} → (P → l ≡ true) → (Q → r ≡ true) → BothWays w P Q
both_ways l r w e f g =
    let b = and_both (one_way l w.left w.right) (one_way r w.right w.left) e in
    record { left_to_right = one_way_lem l w.left w.right b.0 f; right_to_left = one_way_lem r w.right w.left b.1 g }

-- a premise that says more
weaker : {w : World Model} {P Q P' Q' : Type 0} → (P' → P) → (Q' → Q) → BothWays w P Q → BothWays w P' Q'
weaker f g b = record {
  left_to_right = record { prefix = b.left_to_right.prefix; bound = λ t. b.left_to_right.bound (f t); formed = b.left_to_right.formed };
  right_to_left = record { prefix = b.right_to_left.prefix; bound = λ t. b.right_to_left.bound (g t); formed = b.right_to_left.formed };
}

and_true : (a b : Bool) → a ≡ true → b ≡ true → (a && b) ≡ true
and_true a b e f = λ i. e i && f i

-- P and Q say that the timers have waited so far
found : (n : ℕ) (l r : Bool) (w : World Model) → searched n l r w ≡ true → (P Q : Type 0) → (P → l ≡ true) → (Q → r ≡ true) → (ms : List Move) → length ms ≤ n
    → BothWays (play ms w) (P × Waited left ms w) (Q × Waited right ms w)
unfolding searched
found zero l r w e P Q f g [] h = both_ways l r w e (λ t. f t.0) (λ t. g t.0)
found zero l r w e P Q f g (m ∷ ms) h = absurd (omega (arith, h))
found (suc n) l r w e P Q f g [] h = both_ways l r w (and_both (kept l r w) _ e).0 (λ t. f t.0) (λ t. g t.0)
found (suc n) l r w e P Q f g (m ∷ ms) h =
    let d = m.side in
    let c = m.choice in
    weaker (λ t. ((t.0, t.1.0), t.1.1)) (λ t. ((t.0, t.1.0), t.1.1))
    (found n (l && waits left d c w) (r && waits right d c w) (moved d c w) (next_searched n l r w e d c)
    (P × WaitsAt left d (act_of c (end_at d w)) w) (Q × WaitsAt right d (act_of c (end_at d w)) w)
    (λ t. and_true l (waits left d c w) (f t.0) (waits_true left d c w t.1))
    (λ t. and_true r (waits right d c w) (g t.0) (waits_true right d c w t.1))
    ms (omega (arith, h)))

three_searched : (d : Edition) → searched 3 true true (open_ends d (other d)) ≡ true
unfolding timer_of payload_of arrival_of searched
three_searched edition1 = refl
three_searched edition2 = refl

-- whichever end has which edition, after three events or fewer demand 3's claim holds
pub three_are_too_few : (d : Edition) (ms : List Move) → length ms ≤ 3
    → BothWays (play ms (open_ends d (other d))) (Waited left ms (open_ends d (other d))) (Waited right ms (open_ends d (other d)))
three_are_too_few d ms h =
    weaker (λ t. (tt, t)) (λ t. (tt, t))
    (found 3 true true (open_ends d (other d)) (three_searched d) (Unit {0}) (Unit {0}) (λ _. refl) (λ _. refl) ms h)

-- and four are enough: the run `unsettled`, of these kinds
abbrev four : List Move
four =
    record { side = left; choice = offer }
    ∷ record { side = right; choice = receive }
    ∷ record { side = left; choice = receive }
    ∷ record { side = left; choice = timeout }
    ∷ []

four_waited : (d : Edition) → Waited left four (open_ends d (other d))
unfolding timer_of payload_of arrival_of
four_waited edition1 = (tt, (tt, (tt, ((refl, refl), tt))))
four_waited edition2 = (tt, (tt, (tt, ((refl, refl), tt))))

four_counts : (d : Edition) → (data_sent (play four (open_ends d (other d))).left ≡ 2)
    × ((length (play four (open_ends d (other d))).left.accepted ≡ 1) × ((play four (open_ends d (other d))).left.lost ≡ 0))
unfolding timer_of payload_of arrival_of
four_counts edition1 = (refl, (refl, refl))
four_counts edition2 = (refl, (refl, refl))

pub four_are_enough : (d : Edition)
    → BothWays (play four (open_ends d (other d))) (Waited left four (open_ends d (other d))) (Waited right four (open_ends d (other d)))
    → ⊥
four_are_enough d b =
    let n = four_counts d in
    omega (arith, b.left_to_right.bound (four_waited d), n.0, n.1.0, n.1.1)
