-- Rules that tell something else of each report are lawful where the rules are, and report the same octets. Assumes nothing.
use Prim.Native.Nat.{ℕ}
use mathlib.Core.List.{List, [], ◌∷◌, map}
use mathlib.Core.Path.{◌≡◌, refl, sym, ap, ap₂, ◌∙◌}
use native.Mathlib.Omega.{arith}
use lib.ListN.{replicate, length-replicate}
use Rattle.framing.proofs.Meaning.{trace_reports}
use Rattle.framing.proofs.Steps.{step_into-map}
use Rattle.framing.specs.Closing.{closing}
use Rattle.framing.specs.Lawful.{Lawful}
use Rattle.framing.specs.Reports.{Reported, shown, reports_of, shown_reports}
use Rattle.framing.specs.Rules.{Rules, State}
use Rattle.framing.specs.Step.{joined, awaiting, stored_into, in_segment_into, closed_into, step_into, step, fresh}
use Rattle.framing.specs.Told.{told, told_report}
use Rattle.line.proofs.Simulation.{trace_retells}
use Rattle.line.specs.Scan.{advance, store, emit}
use Rattle.line.specs.Simulation.{map_action, retell_event}
use Rattle.line.specs.Trace.{Event, Trace, trace}

module _ {A R T : Type 0} (rules : Rules A R) (tell : R → T) (i : ℕ) (size : T → ℕ) where
  pub told_closing : closing rules ≡ closing (told rules tell i size)
  told_closing = refl

  module _ (law : Lawful rules) (from_is : (p : R) → rules.from p ≡ i) (size_is : (p : R) → size (tell p) ≡ rules.size p) where
    pub told_lawful : Lawful (told rules tell i size)
    told_lawful = record {
      shows_stored = λ d b n a h.
          let p = rules.verdict d b n a in
          let k = law.shows_stored d b n a (omega (arith, h, size_is p)) in
          (omega (arith, k.0, size_is p, from_is p), k.1);
      skips_no_flag = law.skips_no_flag;
      blank-is_blank = law.blank-is_blank;
      blank-is_check = law.blank-is_check;
      added-is_check = law.added-is_check;
    }

    -- one octet
    into_tells : (s : State A) (x : ℕ)
        → step_into (told rules tell i size) (λ t. advance t) (λ t i y. store t i y) (λ r t. emit r t) s x
        ≡ step_into rules (λ t. advance t) (λ t i y. store t i y) (λ r t. emit (tell r) t) s x
    unfolding step_into in_segment_into stored_into closed_into joined awaiting
    into_tells s x = refl

    step_tells : (s : State A) (x : ℕ) → step (told rules tell i size) s x ≡ map_action (λ s. s) tell (step rules s x)
    unfolding step
    step_tells s x =
        into_tells s x
        ∙ sym (step_into-map rules (λ t. advance t) (λ t i y. store t i y) (λ r t. emit r t) (map_action (λ s. s) tell) s x)

    -- the octets shown
    shown_told : (es : List (Event R)) → shown_reports (told rules tell i size) (map (retell_event tell) es) ≡ map (told_report tell) (shown_reports rules es)
    unfolding shown_reports
    shown_told [] = refl
    shown_told (e ∷ es) =
        ap₂ (λ (d : List ℕ) (rs : List (Reported T)). record { report = tell e.report; octets = d } ∷ rs)
        (ap₂ (λ (i n : ℕ). shown e.buffer i n) (sym (from_is e.report)) (size_is e.report)) (shown_told es)

    -- a whole line
    pub reports_told : (l : List ℕ) → reports_of (told rules tell i size) l ≡ map (told_report tell) (reports_of rules l)
    reports_told l =
        let m = replicate {A = ℕ} rules.cap 0 in
        let room = length-replicate {A = ℕ} rules.cap 0 in
        sym (trace_reports (told rules tell i size) told_lawful l m (omega (arith, room)))
        ∙ ap (λ (t : Trace (State A) T). shown_reports (told rules tell i size) t.events) (trace_retells tell (step rules) (step (told rules tell i size)) step_tells l (fresh rules) m)
        ∙ shown_told (trace (step rules) (fresh rules) l m).events
        ∙ ap (map (told_report tell)) (trace_reports rules law l m (omega (arith, room)))
