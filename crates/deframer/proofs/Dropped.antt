-- Octets before the line's first flag change nothing: a call on a chunk is the call on what stands behind them. Assumes nothing.
use Prim.Native.Nat.{ℕ, suc, ◌+◌, ◌≤◌}
use mathlib.Core.Bool.{Bool, true, false, cond, not}
use mathlib.Core.List.{List, [], ◌∷◌}
use mathlib.Core.Path.{◌≡◌, refl, sym, ap, ◌∙◌}
use native.Mathlib.Omega.{arith}
use lib.Dec.{eqb}
use lib.ListN.{length, drop}
use Rattle.std.specs.List.{prefix_len}
use Rattle.deframer.proofs.Steps.{step_line}
use Rattle.deframer.proofs.Ways.{step_hunting}
use Rattle.deframer.specs.Pairs.{Ahead}
use Rattle.deframer.specs.Rule.{rules_of}
use Rattle.deframer.specs.Scan.{view}
use Rattle.deframer.specs.declared.Action.TheVariants.{Advance}
use Rattle.deframer.specs.declared.Rule.{Rule}
use Rattle.deframer.specs.declared.State.{State}
use Rattle.framing.specs.Rules as rules
use Rattle.framing.specs.Step as framing
use Rattle.line.proofs.Scan.{after_zero, after_after}
use Rattle.line.specs.Scan as line

module _ (r : Rule) (s : State) where
  -- how many they are, where the state has seen no flag
  abbrev pub before_flag : List ℕ → ℕ
  before_flag xs = prefix_len (λ x. not (eqb x r.escapes.flag)) xs

  pub before_within : (xs : List ℕ) → before_flag xs ≤ length xs
  before_within [] = omega arith
  before_within (x ∷ xs) = go (eqb x r.escapes.flag) (before_within xs)
    where
      go : (b : Bool) → before_flag xs ≤ length xs → cond (not b) (1 + before_flag xs) 0 ≤ suc (length xs)
      go true h = omega arith
      go false h = omega (arith, h)

  module _ (out : s.synced ≡ false) where
    pub before_ahead : (xs m : List ℕ) → Ahead r s xs m (before_flag xs) s m
    unfolding line.scan line.scan_on
    before_ahead [] m = after_zero _
    before_ahead (x ∷ xs) m = go (eqb x r.escapes.flag) refl (before_ahead xs m)
      where
        go : (b : Bool) → eqb x r.escapes.flag ≡ b → Ahead r s xs m (before_flag xs) s m
            → line.scan (framing.step (rules_of r)) (view s) (x ∷ xs) m ≡ line.after (cond (not b) (1 + before_flag xs) 0) (line.scan (framing.step (rules_of r)) (view s) (drop (cond (not b) (1 + before_flag xs) 0) (x ∷ xs)) m)
        go true e h = after_zero _
        go false e h =
            let u : suc (before_flag xs) ≡ 1 + before_flag xs = omega arith in
            ap (λ (a : line.Action (rules.State ℕ) (rules.State ℕ)). line.scan_on a (λ t n. line.scan (framing.step (rules_of r)) t xs n) m) (step_line r s x (Advance s) (sym (step_hunting r s x e out)))
            ∙ ap (line.after 1) h
            ∙ after_after 1 (before_flag xs) _
            ∙ ap (λ (k : ℕ). line.after (1 + before_flag xs) (line.scan (framing.step (rules_of r)) (view s) (drop k (x ∷ xs)) m)) u

  -- by whether a flag came
  pub dropped_ahead : (n : ℕ) (xs m : List ℕ) → n ≡ cond s.synced 0 (before_flag xs) → (n ≤ length xs) × Ahead r s xs m n s m
  dropped_ahead n xs m e = go s.synced refl e
    where
      go : (b : Bool) → s.synced ≡ b → n ≡ cond b 0 (before_flag xs) → (n ≤ length xs) × Ahead r s xs m n s m
      go true y k = rw k (omega arith, after_zero _)
      go false y k = rw k (before_within xs, before_ahead y xs m)
