-- A call by the rules is a call that reports the state at the closing flag, and then the verdict on it. Assumes nothing.
use Prim.Native.Nat.{ℕ}
use mathlib.Core.List.{List}
use mathlib.Core.Path.{◌≡◌, refl, sym, ◌∙◌}
use Rattle.framing.proofs.Steps.{step_into-map}
use Rattle.framing.specs.Closing.{closing, verdict_on}
use Rattle.framing.specs.Rules.{Rules, State}
use Rattle.framing.specs.Step.{joined, awaiting, stored_into, in_segment_into, closed_into, step_into, step}
use Rattle.line.proofs.Simulation.{scan_simulates}
use Rattle.line.specs.Scan.{advance, store, emit, scan}
use Rattle.line.specs.Simulation.{map_action, map_scan}

module _ {A R : Type 0} (rules : Rules A R) where
  into_judges : (s : State A) (x : ℕ)
      → step_into rules (λ t. advance t) (λ t i y. store t i y) (λ r t. emit r t) s x
      ≡ step_into (closing rules) (λ t. advance t) (λ t i y. store t i y) (λ c t. emit (verdict_on rules c) t) s x
  unfolding step_into in_segment_into stored_into closed_into joined awaiting
  into_judges s x = refl

  step_judges : (s : State A) (x : ℕ) → step rules s x ≡ map_action (λ s. s) (verdict_on rules) (step (closing rules) s x)
  unfolding step
  step_judges s x =
      into_judges s x
      ∙ sym (step_into-map (closing rules) (λ t. advance t) (λ t i y. store t i y) (λ r t. emit r t) (map_action (λ s. s) (verdict_on rules)) s x)

  pub scan_closing : (xs : List ℕ) (s : State A) (m : List ℕ) → scan (step rules) s xs m ≡ map_scan (λ s. s) (verdict_on rules) (scan (step (closing rules)) s xs m)
  scan_closing xs s m = scan_simulates (λ s. s) (verdict_on rules) (step (closing rules)) (step rules) step_judges xs s m
