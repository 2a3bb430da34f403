-- The turns of the loop over a chunk's reports: those of a caller that makes texts (deframer, proofs/Turns), as the code goes. Assumes nothing.
use Rattle.std.proofs.Common.{◌≡◌, ℕ, ◌+◌, ◌-◌, ◌≤◌, Bool, true, false, List, ◌++◌, length, take, drop, sym, refl, ap, ◌∙◌, subst, arith}
use lib.Seq.{sets, length-sets}
use Rattle.common.proofs.Buffer.{sets-part}
use Rattle.common.specs.Buffer.{with_front}
use Rattle.converter.proofs.Rules.{rule_rules, Within, verdict_within}
use Rattle.converter.proofs.Writing.{text_fits, text_by_lem}
use Rattle.converter.specs.Convert.{report_text, counted, later, call_of}
use Rattle.converter.specs.Gist.{source_rules, rule_of, gist_of, gist_length, text_of, text_by}
use Rattle.converter.specs.declared.Converter.{Converter}
use Rattle.converter.specs.declared.Gist.{Gist}
use Rattle.converter.specs.declared.Gist.TheVariants.{Frame, Skipped, Other}
use Rattle.converter.specs.declared.Tally.{Tally}
use Rattle.deframer.proofs.TextTurns as turns
use Rattle.deframer.specs.Scan.{view}
use Rattle.deframer.specs.declared.State as declared
use Rattle.framing.specs.Rules.{State}
use Rattle.line.specs.Gather.{Gathered}
use Rattle.line.specs.Texts.{Texts}
use Rattle.qaft.specs.Answers.{done}
use Rattle.qaft.specs.Limits.{max_data, max_segment, max_frame}

-- both framings store as many octets of a segment
pub cap_is : (to_kiss : Bool) (level : ℕ) → (rule_of to_kiss level).cap ≡ max_segment
cap_is true level = refl
cap_is false level = refl

-- the octets of a frame are no more than a frame has
pub within-length : (g : Gist) → Within g → gist_length g ≤ max_data
within-length (Frame n) h = h.1
within-length Skipped h = omega arith
within-length Other h = omega arith

module _ (c : Converter) where
  abbrev pub texts_at : Tally → (out : List ℕ) (at : ℕ) → Texts Tally
  texts_at = turns.texts_at (report_text c.to_kiss c.level) counted max_frame (rule_of c.to_kiss c.level) (source_rules c.to_kiss c.level) (rule_rules c.to_kiss c.level)

  abbrev pub onwards : declared.State → (xs m : List ℕ) → Texts Tally → Gathered (State ℕ) (Texts Tally)
  onwards = turns.onwards (report_text c.to_kiss c.level) counted max_frame (rule_of c.to_kiss c.level) (source_rules c.to_kiss c.level) (rule_rules c.to_kiss c.level)

  -- an answer, with the buffers after it
  pub answered : (whole : Gathered (State ℕ) (Texts Tally)) (s : declared.State) (t : Tally) (m out : List ℕ) (i at : ℕ) (d : Converter)
      → whole ≡ record { taken = i; state = view s; buffer = m; made = texts_at t out at } → d ≡ later c s t
      → (record { number = done; taken = i; length = at; converter = d } ≡ (call_of c whole).answer) × (m ≡ (call_of c whole).buffer) × (out ≡ (call_of c whole).out)
  unfolding call_of
  answered whole s t m out i at d e z = (
    ap (λ (d : Converter). record { number = done; taken = i; length = at; converter = d }) z ∙ sym (ap (λ (g : Gathered (State ℕ) (Texts Tally)). (call_of c g).answer) e),
    sym (ap (λ (g : Gathered (State ℕ) (Texts Tally)). (call_of c g).buffer) e),
    sym (ap (λ (g : Gathered (State ℕ) (Texts Tally)). (call_of c g).out) e),
  )

  -- a frame has 1 to 2,560 octets
  pub gist_within : (s : declared.State) → Within (gist_of c.to_kiss c.level s)
  gist_within s = verdict_within c.to_kiss c.level s.pending s.bad s.count s.check

  -- as the code goes: n₀ octets of the gist g are to be put; n and y: what was put, and the part of the out buffer from `at` on after it
  module _ (s : declared.State) (t : Tally) (m out : List ℕ) (at : ℕ) (room : at + max_frame ≤ length out)
      (g : Gist) (ge : g ≡ gist_of c.to_kiss c.level s) (n₀ : ℕ) (le : n₀ ≡ gist_length g) (n : ℕ) (y : List ℕ)
      (ne : n ≡ length (text_by c.to_kiss c.level t.at_flag n₀ m))
      (ye : y ≡ with_front (text_by c.to_kiss c.level t.at_flag n₀ m) (take (length out - at) (drop at out))) where
    abbrev text : List ℕ
    text = text_of c.to_kiss c.level t.at_flag g m

    abbrev out' : List ℕ
    out' = take at out ++ (y ++ drop (length out - at) (drop at out))

    limits : Within g
    limits = subst Within (sym ge) (gist_within s)

    text_is : text_by c.to_kiss c.level t.at_flag n₀ m ≡ text
    text_is = ap (λ (n : ℕ). text_by c.to_kiss c.level t.at_flag n m) le ∙ text_by_lem c.to_kiss c.level t.at_flag g m limits

    fits : at + length text ≤ length out
    fits = omega (arith, room, text_fits c.to_kiss c.level t.at_flag g m limits)

    pub put_out : out' ≡ sets out at text
    put_out =
        ap (λ (z : List ℕ). take at out ++ (z ++ drop (length out - at) (drop at out))) (ye ∙ ap (λ (x : List ℕ). with_front x (take (length out - at) (drop at out))) text_is)
        ∙ sets-part text out at fits

    pub put_behind : at + n ≡ at + length text
    put_behind = ap (λ (n : ℕ). at + n) (ne ∙ ap length text_is)

    pub put_long : length out' ≡ length out
    put_long = ap length put_out ∙ length-sets out at text

    pub put_fits : at + n ≤ length out
    put_fits = omega (arith, fits, put_behind)
