-- A caller of the counter, chunk after chunk: the trace of the whole capture, with its octets and its reports counted. Assumes nothing.
use Prim.Native.Nat.{ℕ, ◌≤◌}
use mathlib.Core.List.{List, [], ◌∷◌, ◌++◌, flatten}
use mathlib.Core.Path.{◌≡◌, refl, sym, ap, ◌∙◌}
use native.Mathlib.Omega.{arith}
use Rattle.capture.specs.Octets.{count_all}
use Rattle.deframer.specs.Scan.{place}
use Rattle.framing.proofs.Formed.{Fit, step_keeps}
use Rattle.framing.specs.Reports.{unskipped}
use Rattle.framing.specs.Rules.{State}
use Rattle.framing.specs.Step.{step}
use Rattle.line.proofs.Chunks.{trace_good}
use Rattle.line.proofs.Gather.{gather_everything, make_all-++}
use Rattle.line.proofs.Trace.{trace-++}
use Rattle.line.specs.Gather.{Gathered, make_all}
use Rattle.line.specs.Trace.{Trace, trace, no_event, and_then}
use Rattle.qaft.specs.Limits.{sum_kind, max_level}
use Rattle.qaft_laws.proofs.Rules.{lawful}
use Rattle.qaft_report.specs.declared.Report.{Report}
use Rattle.qaft_rules.specs.Rules.{rules}
use Rattle.sheet_counter.proofs.Calls.{count_gathered}
use Rattle.sheet_counter.specs.Count.{with_report, Call, call_of}
use Rattle.sheet_counter.specs.declared.Counter.{Counter}
use Rattle.sheet_found.specs.declared.Found.{Found}
use Rattle.sheet_laws.proofs.Raw.{raw_all-++}
use Rattle.sheet_laws.specs.Caller.{Counting, count_chunks}
use Rattle.sheet_octets.specs.Raw.{flow_of, raw_all}
use Rattle.sheet_octets.specs.declared.RawOctets.{RawOctets}

module _ (level : ℕ) (h : level ≤ max_level) where
  abbrev pub counter_at : State ℕ → RawOctets → Found → Counter
  counter_at s o f = record { level = level; state = place s; octets = o; found = f }

  -- the counter and the buffer behind octets whose trace is a
  abbrev pub behind : RawOctets → Found → (xs : List ℕ) → Trace (State ℕ) Report → Counting
  behind o f xs a = record { counter = counter_at a.state (raw_all level o xs) (make_all with_report f a.events); buffer = a.buffer }

  abbrev after : Call → List (List ℕ) → Counting
  after k xss = count_chunks k.answer.counter xss k.buffer

  -- octets, and then others
  behind_more : (s : State ℕ) (o : RawOctets) (f : Found) (xs ys m : List ℕ)
      → let a = trace (step (rules level sum_kind)) s xs m in
      behind (raw_all level o xs) (make_all with_report f a.events) ys (trace (step (rules level sum_kind)) a.state ys a.buffer) ≡ behind o f (xs ++ ys) (trace (step (rules level sum_kind)) s (xs ++ ys) m)
  unfolding and_then
  behind_more s o f xs ys m =
      let a = trace (step (rules level sum_kind)) s xs m in
      let b = trace (step (rules level sum_kind)) a.state ys a.buffer in
      (λ i. record {
        counter = counter_at b.state (sym (raw_all-++ level o xs ys) i) (sym (make_all-++ with_report f a.events b.events) i);
        buffer = b.buffer;
      })
      ∙ ap (behind o f (xs ++ ys)) (sym (trace-++ (step (rules level sum_kind)) xs ys s m))

  pub chunks_are : (xss : List (List ℕ)) (s : State ℕ) (o : RawOctets) (f : Found) (m : List ℕ) → Fit (rules level sum_kind) s m
      → count_chunks (counter_at s o f) xss m ≡ behind o f (flatten xss) (trace (step (rules level sum_kind)) s (flatten xss) m)
  unfolding count_chunks flatten trace no_event unskipped flow_of count_all make_all call_of
  chunks_are [] s o f m fit = refl
  chunks_are (xs ∷ xss) s o f m fit =
      let a = trace (step (rules level sum_kind)) s xs m in
      ap (λ (k : Call). after k xss) (count_gathered (counter_at s o f) xs m h (omega (arith, fit.room)))
      ∙ ap (λ (g : Gathered (State ℕ) Found). after (call_of (counter_at s o f) xs g) xss) (gather_everything with_report (step (rules level sum_kind)) xs s m f)
      ∙ chunks_are xss a.state (raw_all level o xs) (make_all with_report f a.events) a.buffer
      (trace_good (step (rules level sum_kind)) (Fit (rules level sum_kind)) (step_keeps (rules level sum_kind) (lawful level sum_kind)) xs s m fit)
      ∙ behind_more s o f xs (flatten xss) m
