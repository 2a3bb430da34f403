-- What the loop gives back, judged and placed among a reader's states, is that reader's scan: for every reader whose rules are those of the rule that
-- it hands over. Assumes nothing.
use Prim.Native.Nat.{ℕ, ◌≤◌}
use mathlib.Core.Bool.{false, cond}
use mathlib.Core.List.{List}
use mathlib.Core.Option.{Option, none, some}
use mathlib.Core.Path.{◌≡◌, refl, sym, ap, ◌∙◌}
use native.Mathlib.Omega.{arith}
use borrow.Author.Tests.{le-ltb}
use lib.ListN.{length}
use Rattle.common.proofs.Each.{Each}
use Rattle.deframer.specs.Rule.{rules_of}
use Rattle.deframer.specs.Scan.{view, Outcome, given, outcome_of, scan_call, scanned}
use Rattle.deframer.specs.declared.Rule.{Rule}
use Rattle.deframer.specs.declared.Scanned.{Scanned}
use Rattle.deframer.specs.declared.State as declared
use Rattle.framing.proofs.Closing.{scan_closing}
use Rattle.framing.proofs.Emitted.{scan_opened, scan_checked}
use Rattle.framing.specs.Closing.{closing, verdict_on}
use Rattle.framing.specs.Rules.{Rules, State}
use Rattle.framing.specs.Step.{opened, step}
use Rattle.line.proofs.Simulation.{scan_simulates}
use Rattle.line.specs.Scan.{Action, Scan, scan}
use Rattle.line.specs.Simulation.{map_option, map_scan, place_action}

-- a call on the chunk xs from the state s, with the buffer m, which has room; u and m': what it gave back, and the buffer after it
module _ (rule : Rule) (s : declared.State) (xs m : List ℕ) (room : rule.cap ≤ length m) (u : Scanned) (m' : List ℕ)
    (e : u ≡ (scanned rule s xs m).answer) (f : m' ≡ (scanned rule s xs m).buffer) where
  abbrev loop : Scan (State ℕ) (State ℕ)
  loop = scan (step (rules_of rule)) (view s) xs m

  looped : scanned rule s xs m ≡ outcome_of loop
  unfolding scanned scan_call
  looped = rw (le-ltb (length m) rule.cap room)

  answer_is : u ≡ given loop.report loop.taken loop.state
  unfolding outcome_of
  answer_is = e ∙ ap (λ (o : Outcome). o.answer) looped

  buffer_is : m' ≡ loop.buffer
  unfolding outcome_of
  buffer_is = f ∙ ap (λ (o : Outcome). o.buffer) looped

  module _ {R T : Type 0} (rules : Rules ℕ R) (same : rules_of rule ≡ closing rules) (place : State ℕ → T) (action : T → ℕ → Action T R)
      (commutes : (s : State ℕ) (x : ℕ) → action (place s) x ≡ place_action place (step rules s x)) where
    -- the reader's scan is the loop's, judged and placed
    scan_loop : scan action (place (view s)) xs m ≡ map_scan place (λ p. p) (map_scan (λ s. s) (verdict_on rules) loop)
    scan_loop =
        scan_simulates place (λ p. p) (step rules) action commutes xs (view s) m
        ∙ ap (map_scan place (λ p. p)) (scan_closing rules xs (view s) m)
        ∙ ap (λ (l : Rules ℕ (State ℕ)). map_scan place (λ p. p) (map_scan (λ s. s) (verdict_on rules) (scan (step l) (view s) xs m))) (sym same)

    -- a report where a segment was closed, and the state behind its flag; else the state that came back
    abbrev pub judged : Scanned → List ℕ → Scan T R
    judged u m = record {
      report = cond u.closed (some (verdict_on rules (view u.state))) none;
      taken = u.taken;
      state = place (cond u.closed (opened rules) (view u.state));
      buffer = m;
    }

    by_report : (o : Option (State ℕ)) → loop.report ≡ o
        → record { report = map_option (λ p. p) (map_option (verdict_on rules) o); taken = loop.taken; state = place loop.state; buffer = loop.buffer }
        ≡ judged (given o loop.taken loop.state) loop.buffer
    by_report none q = refl
    by_report (some c) q =
        let next : loop.state ≡ opened rules = scan_opened (rules_of rule) xs (view s) m c q ∙ ap (λ (l : Rules ℕ (State ℕ)). opened l) same in
        λ i. record { report = some (verdict_on rules c); taken = loop.taken; state = place (next i); buffer = loop.buffer }

    pub scan_judged : scan action (place (view s)) xs m ≡ judged u m'
    scan_judged =
        scan_loop ∙ by_report loop.report refl ∙ (λ i. judged (sym answer_is i) (sym buffer_is i))

  -- what holds of the running check before any octet, and is kept by every octet of a chunk of octets Q, holds of the state that came back
  module _ (P Q : ℕ → Type 0) (blank : P (rules_of rule).blank) (partners : (y : ℕ) → Q y → Q ((rules_of rule).partner y))
      (adds : (n a x : ℕ) → Q x → P a → P ((rules_of rule).add n a x)) where
    check_by_lem : (o : Option (State ℕ)) → u ≡ given o loop.taken loop.state → u.closed ≡ false → P loop.state.check → P u.state.check
    check_by_lem none k z h = rw (ap (λ (u : Scanned). u.state.check) k) h
    check_by_lem (some c) k z h = let y = sym (ap (λ (u : Scanned). u.closed) k) ∙ z in let w : ◌≡◌ {A = ℕ} 0 1 = cc in absurd (omega arith)

    pub check_kept : Each Q xs → P s.check → u.closed ≡ false → P u.state.check
    check_kept ok h z = check_by_lem loop.report answer_is z (scan_checked (rules_of rule) P Q blank partners adds xs ok (view s) m h)
