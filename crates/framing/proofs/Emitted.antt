-- What a report says and what state stands behind it, and what every octet keeps of the running check. Assumes nothing.
use Prim.Native.Nat.{ℕ}
use mathlib.Core.Bool.{Bool}
use mathlib.Core.List.{List}
use mathlib.Core.Logic.{⊎_elim}
use mathlib.Core.Option.{some}
use mathlib.Core.Path.{◌≡◌, refl, sym, subst}
use lib.Dec.{ltb}
use Rattle.common.proofs.Bools.{either}
use Rattle.common.proofs.Each.{Each}
use Rattle.framing.proofs.Steps.{step_into-ind, closed_into-cases}
use Rattle.framing.specs.Rules.{Rules, State}
use Rattle.framing.specs.Step.{opened, joined, awaiting, stored_into, step}
use Rattle.line.proofs.Chunks.{Keeps, scan_good_of}
use Rattle.line.proofs.Scan.{scan_report}
use Rattle.line.specs.Scan.{Action, advance, store, emit, scan}

module _ {A R : Type 0} (rules : Rules A R) where
  -- ---- what holds of every verdict holds of a report, and behind a report a segment is opened
  module _ (Ok : R → Type 0) (verdicts : (d b : Bool) (n : ℕ) (a : A) → Ok (rules.verdict d b n a)) where
    abbrev Emits : Action (State A) R → Type 0
    Emits (advance s) = Unit {0}
    Emits (store s i x) = Unit {0}
    Emits (emit r s) = Ok r × (s ≡ opened rules)

    stored_emits : (s : State A) (b : Bool) (x : ℕ) → Emits (stored_into rules (λ t. advance t) (λ t i y. store t i y) (λ r t. emit r t) s b x)
    unfolding stored_into
    stored_emits s b x = either Emits (ltb s.count rules.cap) (λ _. tt) (λ _. tt)

    step_emits : (s : State A) (x : ℕ) → Emits (step rules s x)
    unfolding step
    step_emits s x =
        step_into-ind rules (λ t. advance t) (λ t i y. store t i y) (λ r t. emit r t) Emits s x
        (closed_into-cases rules (λ t. advance t) (λ t i y. store t i y) (λ r t. emit r t) Emits s (λ d b n a. (verdicts d b n a, refl)) tt)
        (λ _ b y _. stored_emits s b y) (λ _. tt) tt

    pub step_report : (s : State A) (x : ℕ) (r : R) (t : State A) → step rules s x ≡ emit r t → Ok r × (t ≡ opened rules)
    step_report s x r t e = subst Emits e (step_emits s x)

  -- behind a report a segment is opened
  pub scan_opened : (xs : List ℕ) (s : State A) (m : List ℕ) (r : R) → (scan (step rules) s xs m).report ≡ some r → (scan (step rules) s xs m).state ≡ opened rules
  scan_opened xs s m r h =
      scan_report (step rules) (λ (_ : R) (t : State A). t ≡ opened rules) (λ s x r t e. (step_report (λ _. Unit {0}) (λ d b n a. tt) s x r t e).1) xs s m r h

  -- ---- what holds of the check before any octet, and is kept by every octet Q, holds after a call on such octets
  module _ (P : A → Type 0) (Q : ℕ → Type 0) (blank : P rules.blank) (partners : (y : ℕ) → Q y → Q (rules.partner y))
      (adds : (n : ℕ) (a : A) (x : ℕ) → Q x → P a → P (rules.add n a x)) where
    abbrev Checked : State A → List ℕ → Type 0
    Checked s m = P s.check

    stored_checked : (s : State A) (b : Bool) (x : ℕ) (m : List ℕ) → Q x → P s.check
        → Keeps (step rules) Checked (stored_into rules (λ t. advance t) (λ t i y. store t i y) (λ r t. emit r t) s b x) m
    unfolding stored_into joined
    stored_checked s b x m q h =
        let k = adds s.count s.check x q h in
        either (λ (a : Action (State A) R). Keeps (step rules) Checked a m) (ltb s.count rules.cap) (λ _. k) (λ _. k)

    step_checked : (s : State A) (x : ℕ) (m : List ℕ) → Q x → P s.check → Keeps (step rules) Checked (step rules s x) m
    unfolding step awaiting
    step_checked s x m q h =
        let K : Action (State A) R → Type 0 = λ a. Keeps (step rules) Checked a m in
        step_into-ind rules (λ t. advance t) (λ t i y. store t i y) (λ r t. emit r t) K s x
        (closed_into-cases rules (λ t. advance t) (λ t i y. store t i y) (λ r t. emit r t) K s (λ d b n a. blank) blank)
        (λ _ b y j. stored_checked s b y m (⊎_elim (λ e. subst Q (sym e) q) (λ e. subst Q (sym e) (partners x q)) j) h) (λ _. h) h

    pub scan_checked : (xs : List ℕ) → Each Q xs → (s : State A) (m : List ℕ) → P s.check → P (scan (step rules) s xs m).state.check
    scan_checked xs ok s m h = scan_good_of (step rules) Checked Q step_checked xs ok s m h
