-- A caller of the lister is a caller that makes texts of reports, and counts octets beside it. Assumes nothing.
use Prim.Native.Nat.{ℕ, zero, suc, ◌≤◌}
use mathlib.Core.Bool.{Bool, true, false}
use mathlib.Core.List.{List, [], ◌∷◌, ◌++◌, flatten}
use mathlib.Core.Path.{◌≡◌, refl, sym, ap, ◌∙◌, subst}
use native.Mathlib.Omega.{arith}
use lib.ListN.{length, take, drop, length-drop, take-append-drop}
use Rattle.capture.proofs.Counting.{count_all-++}
use Rattle.capture.specs.Octets.{count_all}
use Rattle.capture.specs.declared.Octets.{Octets}
use Rattle.deframer.specs.Scan.{place}
use Rattle.framing.proofs.Emitted.{step_report}
use Rattle.framing.proofs.Formed.{Fit, step_keeps}
use Rattle.framing.specs.Rules.{State}
use Rattle.framing.specs.Step.{step}
use Rattle.line.proofs.Chunks.{trace_good}
use Rattle.line.proofs.Gather.{gather_takes}
use Rattle.line.proofs.Texts.{call_within, chunk_makes}
use Rattle.line.specs.Scan.{emit}
use Rattle.line.specs.Texts.{has_room, with_text, text_call, text_chunk, text_chunks}
use Rattle.line.specs.Texts as texting
use Rattle.line.specs.Trace.{trace}
use Rattle.lister.proofs.Lines.{line_fits, list_gathered}
use Rattle.lister.proofs.Rules.{lawful, verdict_within}
use Rattle.lister.specs.Entries.{flag_of, source_rules, entry_length, line_of, counted}
use Rattle.lister.specs.Lines.{most_octets, Call, call_of}
use Rattle.lister.specs.declared.Lister.{Lister}
use Rattle.listing.specs.Line.{max_line}
use Rattle.listing.specs.declared.Entry.{Entry}
use Rattle.listing_laws.specs.Caller.{Written, following, list_chunk, list_chunks}
use Rattle.qaft.specs.Limits.{max_level, max_data, max_segment}

-- both framings store as many octets of a segment
pub cap_is : (kiss : Bool) (level : ℕ) → (source_rules kiss level).cap ≡ max_segment
cap_is true level = refl
cap_is false level = refl

-- a report's line is no longer than the longest
pub lines_short : (kiss : Bool) (level : ℕ) (k : ℕ) (s : State ℕ) (x : ℕ) (p : Entry) (t : State ℕ) (m : List ℕ) → step (source_rules kiss level) s x ≡ emit p t → length (line_of kiss k p m) ≤ max_line
lines_short kiss level k s x p t m e =
    line_fits kiss k p m (step_report (source_rules kiss level) (λ (p : Entry). entry_length p ≤ max_data) (verdict_within kiss level) s x p t e).0

module _ (kiss : Bool) (level : ℕ) (h : level ≤ max_level) where
  abbrev flag : ℕ
  flag = flag_of kiss

  abbrev pub lister_at : State ℕ → (k : ℕ) → Octets → Lister
  lister_at s k c = record { kiss = kiss; level = level; state = place s; reports = k; counts = c }

  -- what a caller that makes texts wrote, as the lister's caller has it
  abbrev pub retold : Octets → texting.Written (State ℕ) ℕ → Written
  retold c w = record { text = w.text; lister = lister_at w.state w.tally c; buffer = w.buffer; out = w.out }

  segment : (s : State ℕ) (m : List ℕ) → Fit (source_rules kiss level) s m → max_segment ≤ length m
  segment s m fit = omega (arith, cap_is kiss level, fit.room)

  -- octets counted in two parts
  counted_on : (c : Octets) (n : ℕ) (xs : List ℕ) → count_all most_octets flag (count_all most_octets flag c (take n xs)) (drop n xs) ≡ count_all most_octets flag c xs
  counted_on c n xs = sym (count_all-++ most_octets flag c (take n xs) (drop n xs)) ∙ ap (count_all most_octets flag c) (take-append-drop n xs)

  chunk_is : (n : ℕ) (s : State ℕ) (k : ℕ) (c : Octets) (xs m out : List ℕ) → Fit (source_rules kiss level) s m → max_line ≤ length out → length xs ≤ n
      → list_chunk n (lister_at s k c) xs m out ≡ retold (count_all most_octets flag c xs) (text_chunk (line_of kiss) counted max_line (step (source_rules kiss level)) n s k xs m out)
  unfolding list_chunk text_chunk call_of count_all
  chunk_is zero s k c [] m out fit room few = refl
  chunk_is zero s k c (x ∷ xs) m out fit room few = let z : ⊥ = omega arith in absurd z
  chunk_is (suc n) s k c [] m out fit room few = refl
  chunk_is (suc n) s k c (x ∷ xs) m out fit room few =
      let g = text_call (line_of kiss) counted max_line (step (source_rules kiss level)) s k (x ∷ xs) m out in
      let w = call_within (line_of kiss) counted max_line (step (source_rules kiss level)) (Fit (source_rules kiss level)) (step_keeps (source_rules kiss level) (lawful kiss level)) (lines_short kiss level) s k (x ∷ xs) m out fit room in
      let zs = drop g.taken (x ∷ xs) in
      let c' = count_all most_octets flag c (take g.taken (x ∷ xs)) in
      let shorter : length zs ≤ n = omega (arith, length-drop g.taken (x ∷ xs), gather_takes (with_text (line_of kiss) counted) (has_room max_line) (step (source_rules kiss level)) x xs s m (record { tally = k; out = out; behind = 0 })) in
      let rest = text_chunk (line_of kiss) counted max_line (step (source_rules kiss level)) n g.state g.made.tally zs g.buffer g.made.out in
      ap (λ (k : Call). following (take k.answer.length k.out) (list_chunk n k.answer.lister (drop k.answer.taken (x ∷ xs)) k.buffer k.out))
      (list_gathered (lister_at s k c) (x ∷ xs) m out h room (segment s m fit))
      ∙ ap (following (take g.made.behind g.made.out))
      (chunk_is n g.state g.made.tally c' zs g.buffer g.made.out w.good (omega (arith, w.long)) shorter
      ∙ ap (λ (c : Octets). retold c rest) (counted_on c g.taken (x ∷ xs)))

  pub chunks_is : (xss : List (List ℕ)) (s : State ℕ) (k : ℕ) (c : Octets) (m out : List ℕ) → Fit (source_rules kiss level) s m → max_line ≤ length out
      → list_chunks (lister_at s k c) xss m out ≡ retold (count_all most_octets flag c (flatten xss)) (text_chunks (line_of kiss) counted max_line (step (source_rules kiss level)) s k xss m out)
  unfolding list_chunks text_chunks count_all flatten
  chunks_is [] s k c m out fit room = refl
  chunks_is (xs ∷ xss) s k c m out fit room =
      let w = text_chunk (line_of kiss) counted max_line (step (source_rules kiss level)) (length xs) s k xs m out in
      let r = chunk_makes (line_of kiss) counted max_line (step (source_rules kiss level)) (Fit (source_rules kiss level)) (step_keeps (source_rules kiss level) (lawful kiss level)) (lines_short kiss level) (length xs) s k xs m out fit room (omega arith) in
      let f : Fit (source_rules kiss level) w.state w.buffer =
      subst (λ (u : State ℕ). Fit (source_rules kiss level) u w.buffer) (sym r.state_is)
      (subst (Fit (source_rules kiss level) (trace (step (source_rules kiss level)) s xs m).state) (sym r.buffer_is)
      (trace_good (step (source_rules kiss level)) (Fit (source_rules kiss level)) (step_keeps (source_rules kiss level) (lawful kiss level)) xs s m fit)) in
      let rest = text_chunks (line_of kiss) counted max_line (step (source_rules kiss level)) w.state w.tally xss w.buffer w.out in
      ap (λ (v : Written). following v.text (list_chunks v.lister xss v.buffer v.out)) (chunk_is (length xs) s k c xs m out fit room (omega arith))
      ∙ ap (following w.text)
      (chunks_is xss w.state w.tally (count_all most_octets flag c xs) w.buffer w.out f (omega (arith, r.long_is))
      ∙ ap (λ (c : Octets). retold c rest) (sym (count_all-++ most_octets flag c xs (flatten xss))))
