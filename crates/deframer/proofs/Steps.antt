-- One octet's step in the shared loop is framing's, and it stores within the cap. Assumes nothing.
use Prim.Native.Nat.{ℕ, ◌<◌}
use mathlib.Core.Bool.{Bool, true, false, cond}
use mathlib.Core.Path.{◌≡◌, refl, sym, ap, ◌∙◌, subst}
use borrow.Author.Tests.{ltb-true}
use lib.Dec.{ltb, eqb}
use Rattle.common.proofs.Bools.{either}
use Rattle.deframer.specs.Rule.{rules_of}
use Rattle.deframer.specs.Scan.{view, in_sync, advances, stores, closes, step}
use Rattle.deframer.specs.declared.Action.{Action}
use Rattle.deframer.specs.declared.Action.TheVariants.{Advance, Store, Close}
use Rattle.deframer.specs.declared.Rule.{Rule}
use Rattle.deframer.specs.declared.State.{State}
use Rattle.framing.proofs.Steps.{step_into-ind, closed_into-cases, step_into-map}
use Rattle.framing.specs.Rules as rules
use Rattle.framing.specs.Step as framing
use Rattle.line.specs.Scan as line

module _ (r : Rule) (s : State) where
  -- the code's action as one of the crate line; a segment that is closed is reported as its state, and the next is opened
  abbrev pub line_action : Action → line.Action (rules.State ℕ) (rules.State ℕ)
  line_action (Advance t) = line.advance (view t)
  line_action (Store t i x) = line.store (view t) i x
  line_action Close = line.emit (view (in_sync s)) (framing.opened (rules_of r))

  -- a flag
  closed_line : framing.closed_into (rules_of r) (λ t. line.advance t) (λ t i y. line.store t i y) (λ c t. line.emit c t) (view s)
      ≡ framing.closed_into (rules_of r) (λ t. line.advance t) (λ t i y. line.store t i y) (λ c t. line.emit (view (in_sync s)) (framing.opened (rules_of r))) (view s)
  unfolding framing.closed_into
  closed_line = go s.pending refl
    where
      found : Bool → rules.State ℕ
      found p = record { synced = true; pending = p; bad = s.bad; count = s.count; check = s.check }

      go : (p : Bool) → s.pending ≡ p
          → cond p (line.emit (found true) (framing.opened (rules_of r))) (cond (eqb s.count 0) (line.advance (framing.opened (rules_of r))) (line.emit (found false) (framing.opened (rules_of r))))
          ≡ cond p (line.emit (found s.pending) (framing.opened (rules_of r)))
          (cond (eqb s.count 0) (line.advance (framing.opened (rules_of r))) (line.emit (found s.pending) (framing.opened (rules_of r))))
      go true e = ap (λ (p : Bool). line.emit (found p) (framing.opened (rules_of r))) (sym e)
      go false e =
          ap (λ (p : Bool). cond (eqb s.count 0) (line.advance (framing.opened (rules_of r))) (line.emit (found p) (framing.opened (rules_of r)))) (sym e)

  -- any octet
  pub step_line : (x : ℕ) (a : Action) → step r s x ≡ a → framing.step (rules_of r) (view s) x ≡ line_action a
  unfolding step framing.step framing.step_into framing.in_segment_into framing.stored_into
  step_line x a e =
      rw closed_line (sym (step_into-map (rules_of r) advances stores closes line_action (view s) x) ∙ ap line_action e)

  -- an octet is stored within the cap
  abbrev Within : Action → Type 0
  Within (Advance t) = Unit {0}
  Within (Store t i x) = i < r.cap
  Within Close = Unit {0}

  stored_within : (b : Bool) (x : ℕ) → Within (framing.stored_into (rules_of r) advances stores closes (view s) b x)
  unfolding framing.stored_into
  stored_within b x = either Within (ltb s.count r.cap) (λ e. ltb-true _ _ e) (λ _. tt)

  pub step_index : (x : ℕ) (t : State) (i y : ℕ) → step r s x ≡ Store t i y → i < r.cap
  unfolding step
  step_index x t i y e =
      subst Within e
      (step_into-ind (rules_of r) advances stores closes Within (view s) x
      (closed_into-cases (rules_of r) advances stores closes Within (view s) (λ d b n a. tt) tt) (λ _ b y _. stored_within b y) (λ _. tt) tt)
