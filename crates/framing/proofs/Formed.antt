-- A state that is well formed stays so, and a buffer keeps its size. Assumes nothing.
use Prim.Native.Nat.{ℕ, ◌+◌, ◌≤◌, ◌<◌}
use mathlib.Core.Bool.{Bool, true, false, ◌||◌}
use mathlib.Core.List.{List}
use mathlib.Core.Path.{◌≡◌}
use native.Mathlib.Omega.{arith}
use borrow.Author.Tests.{ltb-true, le-ltb, ne_eqb}
use lib.Dec.{ltb}
use lib.ListN.{length, length-set}
use Rattle.common.proofs.Bools.{either, or_false_left, or_false_right}
use Rattle.framing.proofs.Steps.{closed_into-cases, step_into-ind}
use Rattle.framing.specs.Lawful.{Lawful}
use Rattle.framing.specs.Rules.{Rules, State}
use Rattle.framing.specs.Step.{fresh, opened, next, joined, awaiting, stored_into, step, over_cap, no_check, check_of_nothing, segment_before_flag, malformed}
use Rattle.line.proofs.Chunks.{Keeps, scan_good}
use Rattle.line.specs.Scan.{Action, advance, store, emit, scan}

module _ {A R : Type 0} (rules : Rules A R) where
  -- a state and a buffer that no call refuses
  pub record Fit (s : State A) (m : List ℕ) : Type 0 where
    pub room : rules.cap ≤ length m
    pub formed : malformed rules s ≡ false

  -- what a well formed state is not, way by way
  pub record Formed (s : State A) : Type 0 where
    pub within : over_cap rules s ≡ false
    pub is_check : no_check rules s ≡ false
    pub of_some : check_of_nothing rules s ≡ false
    pub in_sync : segment_before_flag rules s ≡ false

  pub formed_ways : (s : State A) → malformed rules s ≡ false → Formed s
  unfolding malformed
  formed_ways s e =
      let checked = or_false_right (over_cap rules s) (no_check rules s || (check_of_nothing rules s || segment_before_flag rules s)) e in
      let rest = or_false_right (no_check rules s) (check_of_nothing rules s || segment_before_flag rules s) checked in
      record {
        within = or_false_left (over_cap rules s) (no_check rules s || (check_of_nothing rules s || segment_before_flag rules s)) e;
        is_check = or_false_left (no_check rules s) (check_of_nothing rules s || segment_before_flag rules s) checked;
        of_some = or_false_left (check_of_nothing rules s) (segment_before_flag rules s) rest;
        in_sync = or_false_right (check_of_nothing rules s) (segment_before_flag rules s) rest;
      }

  awaiting_formed : (s : State A) → s.synced ≡ true → malformed rules s ≡ false → malformed rules (awaiting rules s) ≡ false
  unfolding awaiting malformed
  awaiting_formed s y e = let f = formed_ways s e in rw (f.within, f.is_check, f.of_some, y)

  -- the count after an octet is 1 to the cap and one
  next_bounds : (n : ℕ) → (0 < next rules n) × (next rules n ≤ rules.cap + 1)
  next_bounds n = either (λ (k : ℕ). (0 < k) × (k ≤ rules.cap + 1)) (ltb n rules.cap) (λ e. omega (arith, ltb-true n rules.cap e)) (λ e. omega arith)

  abbrev KeepsFit : List ℕ → Action (State A) R → Type 0
  KeepsFit m a = Keeps (step rules) Fit a m

  module _ (law : Lawful rules) where
    joined_formed : (s : State A) (b : Bool) (x : ℕ) → s.synced ≡ true → malformed rules (joined rules s b x) ≡ false
    unfolding joined malformed
    joined_formed s b x y =
        let c = next_bounds s.count in
        rw (le-ltb (rules.cap + 1) (next rules s.count) c.1, law.added-is_check s.count s.check x, ne_eqb (next rules s.count) 0 (λ q. omega (arith, q, c.0)), y)

    stored_keeps : (s : State A) (b : Bool) (x : ℕ) (m : List ℕ) → s.synced ≡ true → rules.cap ≤ length m
        → KeepsFit m (stored_into rules (λ t. advance t) (λ t i y. store t i y) (λ r t. emit r t) s b x)
    unfolding stored_into
    stored_keeps s b x m y r =
        either (KeepsFit m) (ltb s.count rules.cap)
        (λ _. record { room = simp length-set r; formed = joined_formed s b x y })
        (λ _. record { room = r; formed = joined_formed s b x y })

    pub opened_formed : malformed rules (opened rules) ≡ false
    unfolding malformed
    opened_formed = rw (le-ltb (rules.cap + 1) 0 (omega arith), law.blank-is_check, law.blank-is_blank)

    pub fresh_formed : malformed rules (fresh rules) ≡ false
    unfolding malformed
    fresh_formed = rw (le-ltb (rules.cap + 1) 0 (omega arith), law.blank-is_check, law.blank-is_blank)

    -- one octet keeps it
    pub step_keeps : (s : State A) (x : ℕ) (m : List ℕ) → Fit s m → Keeps (step rules) Fit (step rules s x) m
    unfolding step
    step_keeps s x m h =
        let o : Fit (opened rules) m = record { room = h.room; formed = opened_formed } in
        step_into-ind rules (λ t. advance t) (λ t i y. store t i y) (λ r t. emit r t) (KeepsFit m) s x
        (closed_into-cases rules (λ t. advance t) (λ t i y. store t i y) (λ r t. emit r t) (KeepsFit m) s (λ d b n a. o) o)
        (λ y b z _. stored_keeps s b z m y h.room)
        (λ y. record { room = h.room; formed = awaiting_formed s y h.formed })
        h

    -- a call gives back a well formed state where it was given one
    pub scan_formed : (s : State A) (xs m : List ℕ) → Fit s m → Fit (scan (step rules) s xs m).state (scan (step rules) s xs m).buffer
    scan_formed s xs m h = scan_good (step rules) Fit step_keeps xs s m h
