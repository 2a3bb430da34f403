-- A caller of the converter is a caller that makes texts of reports. Assumes nothing.
use Prim.Native.Nat.{ℕ, zero, suc, ◌≤◌}
use mathlib.Core.Bool.{Bool, true, false}
use mathlib.Core.List.{List, [], ◌∷◌}
use mathlib.Core.Path.{◌≡◌, refl, sym, ap, ◌∙◌, subst}
use native.Mathlib.Omega.{arith}
use lib.ListN.{length, take, drop}
use Rattle.conversion_laws.specs.Caller.{Written, following, convert_chunk, convert_chunks}
use Rattle.converter.proofs.Refusals.{convert_gathered}
use Rattle.converter.proofs.Rules.{lawful, Within, verdict_within}
use Rattle.converter.proofs.Writing.{text_fits}
use Rattle.converter.specs.Convert.{counted, report_text, Call, call_of}
use Rattle.converter.specs.Gist.{source_rules}
use Rattle.converter.specs.declared.Converter.{Converter}
use Rattle.converter.specs.declared.Gist.{Gist}
use Rattle.converter.specs.declared.Tally.{Tally}
use Rattle.deframer.specs.Scan.{place}
use Rattle.framing.proofs.Emitted.{step_report}
use Rattle.framing.proofs.Formed.{Fit, step_keeps}
use Rattle.framing.specs.Rules.{State}
use Rattle.framing.specs.Step.{step}
use Rattle.line.proofs.Texts.{call_within, chunk_makes}
use Rattle.line.proofs.Chunks.{trace_good}
use Rattle.line.specs.Scan.{emit}
use Rattle.line.specs.Texts.{text_call, text_chunk, text_chunks}
use Rattle.line.specs.Texts as texting
use Rattle.line.specs.Trace.{trace}
use Rattle.qaft.specs.Limits.{max_level, max_segment, max_frame}

-- both framings store as many octets of a segment
pub cap_is : (to_kiss : Bool) (level : ℕ) → (source_rules to_kiss level).cap ≡ max_segment
cap_is true level = refl
cap_is false level = refl

-- a report's text is no longer than the longest frame
pub texts_short : (to_kiss : Bool) (level : ℕ) (t : Tally) (s : State ℕ) (x : ℕ) (g : Gist) (u : State ℕ) (m : List ℕ) → step (source_rules to_kiss level) s x ≡ emit g u → length (report_text to_kiss level t g m) ≤ max_frame
texts_short to_kiss level t s x g u m e = text_fits to_kiss level t.at_flag g m (step_report (source_rules to_kiss level) Within (verdict_within to_kiss level) s x g u e).0

module _ (to_kiss : Bool) (level : ℕ) (h : level ≤ max_level) where
  abbrev converter_at : State ℕ → Tally → Converter
  converter_at s t = record { to_kiss = to_kiss; level = level; state = place s; tally = t }

  -- what a caller that makes texts wrote, as the converter's caller has it
  abbrev retold : texting.Written (State ℕ) Tally → Written
  retold w = record { text = w.text; converter = converter_at w.state w.tally; buffer = w.buffer; out = w.out }

  segment : (s : State ℕ) (m : List ℕ) → Fit (source_rules to_kiss level) s m → max_segment ≤ length m
  segment s m fit = omega (arith, cap_is to_kiss level, fit.room)

  chunk_is : (n : ℕ) (s : State ℕ) (t : Tally) (xs m out : List ℕ) → Fit (source_rules to_kiss level) s m → max_frame ≤ length out
      → convert_chunk n (converter_at s t) xs m out ≡ retold (text_chunk (report_text to_kiss level) counted max_frame (step (source_rules to_kiss level)) n s t xs m out)
  unfolding convert_chunk text_chunk call_of
  chunk_is zero s t xs m out fit room = refl
  chunk_is (suc n) s t [] m out fit room = refl
  chunk_is (suc n) s t (x ∷ xs) m out fit room =
      let g = text_call (report_text to_kiss level) counted max_frame (step (source_rules to_kiss level)) s t (x ∷ xs) m out in
      let w = call_within (report_text to_kiss level) counted max_frame (step (source_rules to_kiss level)) (Fit (source_rules to_kiss level)) (step_keeps (source_rules to_kiss level) (lawful to_kiss level)) (texts_short to_kiss level) s t (x ∷ xs) m out fit room in
      ap (λ (k : Call). following (take k.answer.length k.out) (convert_chunk n k.answer.converter (drop k.answer.taken (x ∷ xs)) k.buffer k.out))
      (convert_gathered (converter_at s t) (x ∷ xs) m out h room (segment s m fit))
      ∙ ap (following (take g.made.behind g.made.out)) (chunk_is n g.state g.made.tally (drop g.taken (x ∷ xs)) g.buffer g.made.out w.good (omega (arith, w.long)))

  pub chunks_is : (xss : List (List ℕ)) (s : State ℕ) (t : Tally) (m out : List ℕ) → Fit (source_rules to_kiss level) s m → max_frame ≤ length out
      → convert_chunks (converter_at s t) xss m out ≡ retold (text_chunks (report_text to_kiss level) counted max_frame (step (source_rules to_kiss level)) s t xss m out)
  unfolding convert_chunks text_chunks
  chunks_is [] s t m out fit room = refl
  chunks_is (xs ∷ xss) s t m out fit room =
      let w = text_chunk (report_text to_kiss level) counted max_frame (step (source_rules to_kiss level)) (length xs) s t xs m out in
      let r = chunk_makes (report_text to_kiss level) counted max_frame (step (source_rules to_kiss level)) (Fit (source_rules to_kiss level)) (step_keeps (source_rules to_kiss level) (lawful to_kiss level)) (texts_short to_kiss level) (length xs) s t xs m out fit room (omega arith) in
      let f : Fit (source_rules to_kiss level) w.state w.buffer =
      subst (λ (u : State ℕ). Fit (source_rules to_kiss level) u w.buffer) (sym r.state_is)
      (subst (Fit (source_rules to_kiss level) (trace (step (source_rules to_kiss level)) s xs m).state) (sym r.buffer_is)
      (trace_good (step (source_rules to_kiss level)) (Fit (source_rules to_kiss level)) (step_keeps (source_rules to_kiss level) (lawful to_kiss level)) xs s m fit)) in
      ap (λ (v : Written). following v.text (convert_chunks v.converter xss v.buffer v.out)) (chunk_is (length xs) s t xs m out fit room)
      ∙ ap (following w.text) (chunks_is xss w.state w.tally w.buffer w.out f (omega (arith, r.long_is)))
