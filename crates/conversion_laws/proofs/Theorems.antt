-- The theorems on conversions, each under one name; docs/THEOREMS.md says them in words. Assumes nothing.
use Prim.Native.Nat.{ℕ, suc, ◌+◌, ◌^◌, ◌≤◌, ◌<◌}
use mathlib.Core.Bool.{Bool, true, false}
use mathlib.Core.List.{List, [], ◌∷◌, map, flatten}
use mathlib.Core.Path.{◌≡◌, refl, ap, ◌∙◌, subst}
use native.Mathlib.Omega.{arith}
use lib.ListN.{length}
use Rattle.conversion_laws.proofs.Calls.{cap_is, texts_short, chunks_is}
use Rattle.conversion_laws.proofs.Frames.{frames_writable, kiss_line_reports, qaft_line_reports, kiss_line_frames, qaft_line_frames}
use Rattle.conversion_laws.proofs.Gists.{frames_told, counts_told}
use Rattle.conversion_laws.proofs.Texts.{shows, text_line, texts_frames, Counted, tally_counts}
use Rattle.conversion_laws.specs.Caller.{Written, convert_chunks}
use Rattle.conversion_laws.specs.Frames.{count_before, counts_of, frames_of, qaft_frames, kiss_frames, qaft_counts, kiss_counts, source_frames, source_counts, target_line, conversion_of}
use Rattle.converter.proofs.Rules.{lawful, qaft-length, kiss-length}
use Rattle.converter.specs.Convert.{fresh_tally, counted, fresh_converter, report_text}
use Rattle.converter.specs.declared.Converter.{Converter}
use Rattle.converter.specs.Gist.{gist_of_qaft, gist_of_kiss, gist_length, source_rules}
use Rattle.converter.specs.declared.Gist.{Gist}
use Rattle.converter.specs.declared.Gist.TheVariants.{Frame, Skipped, Other}
use Rattle.converter.specs.declared.Tally.{Tally}
use Rattle.deframer.specs.Scan.{place}
use Rattle.framing.proofs.Formed.{Fit, fresh_formed, step_keeps}
use Rattle.framing.proofs.Meaning.{trace_reports}
use Rattle.framing.proofs.Told.{reports_told}
use Rattle.framing.specs.Reports.{Reported, reports_of}
use Rattle.framing.specs.Rules.{State}
use Rattle.framing.specs.Step.{fresh, step}
use Rattle.framing.specs.Told.{told_report}
use Rattle.kiss.specs.Limits.{type_size}
use Rattle.kiss_laws.proofs.Rules as kiss_laws
use Rattle.kiss_rules.specs.Rules as kiss_rules
use Rattle.line.proofs.Texts.{Makes, chunks_make}
use Rattle.line.proofs.Trace.{trace_events}
use Rattle.line.specs.Texts.{texts_of, tally_of, text_chunks}
use Rattle.line.specs.Texts as texting
use Rattle.line.specs.Trace.{Event, trace}
use Rattle.qaft.specs.Frame.{Writable}
use Rattle.qaft.specs.Limits.{sum_kind, max_level, max_segment, max_frame}
use Rattle.qaft_laws.proofs.Rules as qaft_laws
use Rattle.qaft_rules.specs.Rules as qaft_rules

-- ---- the reports of the capture, by their gists
qaft_told : (level : ℕ) (l : List ℕ) → reports_of (source_rules true level) l ≡ map (told_report gist_of_qaft) (reports_of (qaft_rules.rules level sum_kind) l)
qaft_told level l = reports_told (qaft_rules.rules level sum_kind) gist_of_qaft 0 gist_length (qaft_laws.lawful level sum_kind) (λ p. refl) qaft-length l

kiss_told : (level : ℕ) (l : List ℕ) → reports_of (source_rules false level) l ≡ map (told_report gist_of_kiss) (reports_of kiss_rules.rules l)
kiss_told level l = reports_told kiss_rules.rules gist_of_kiss type_size gist_length kiss_laws.lawful (λ p. refl) kiss-length l

gists_frames : (to_kiss : Bool) (level : ℕ) (l : List ℕ) → frames_of (λ g. g) (reports_of (source_rules to_kiss level) l) ≡ source_frames to_kiss level l
gists_frames true level l = ap (frames_of (λ g. g)) (qaft_told level l) ∙ frames_told gist_of_qaft (reports_of (qaft_rules.rules level sum_kind) l)
gists_frames false level l = ap (frames_of (λ g. g)) (kiss_told level l) ∙ frames_told gist_of_kiss (reports_of kiss_rules.rules l)

gists_counts : (to_kiss : Bool) (level : ℕ) (l : List ℕ) → counts_of (λ g. g) (reports_of (source_rules to_kiss level) l) ≡ source_counts to_kiss level l
gists_counts true level l = ap (counts_of (λ g. g)) (qaft_told level l) ∙ counts_told gist_of_qaft (reports_of (qaft_rules.rules level sum_kind) l)
gists_counts false level l = ap (counts_of (λ g. g)) (kiss_told level l) ∙ counts_told gist_of_kiss (reports_of kiss_rules.rules l)

source_writable : (to_kiss : Bool) (level : ℕ) (l : List ℕ) → Writable (source_frames to_kiss level l)
source_writable to_kiss level l = subst Writable (gists_frames to_kiss level l) (frames_writable to_kiss level l)

-- ---- a caller of the converter
-- the texts and the tally of all reports of a capture, whatever the reader's buffer m holds
module _ (to_kiss : Bool) (level : ℕ) (m : List ℕ) (segment : max_segment ≤ length m) (l : List ℕ) where
  abbrev reports : List (Event Gist)
  reports = (trace (step (source_rules to_kiss level)) (fresh (source_rules to_kiss level)) l m).events

  shown_is : shows to_kiss level reports ≡ reports_of (source_rules to_kiss level) l
  shown_is = trace_reports (source_rules to_kiss level) (lawful to_kiss level) l m (omega (arith, cap_is to_kiss level))

  pub texts_of_the_capture : texts_of (report_text to_kiss level) counted fresh_tally reports ≡ conversion_of to_kiss level l
  texts_of_the_capture =
      texts_frames to_kiss level reports fresh_tally
      ∙ text_line to_kiss level (frames_of (λ g. g) (shows to_kiss level reports))
      ∙ ap (target_line to_kiss level) (ap (frames_of (λ g. g)) shown_is ∙ gists_frames to_kiss level l)

  pub tally_of_the_capture : length l < 2 ^ 64
      → let t = tally_of (report_text to_kiss level) counted fresh_tally reports in
      let c = source_counts to_kiss level l in
      (t.frames ≡ c.frames) × (t.skipped ≡ c.skipped) × (t.others ≡ c.others)
  tally_of_the_capture few =
      let k = tally_counts to_kiss level reports fresh_tally (omega (arith, trace_events (step (source_rules to_kiss level)) l (fresh (source_rules to_kiss level)) m)) in
      let r = subst (Counted to_kiss level (tally_of (report_text to_kiss level) counted fresh_tally reports) fresh_tally) (ap (counts_of (λ g. g)) shown_is ∙ gists_counts to_kiss level l) k in
      (omega (arith, r.0), omega (arith, r.1), omega (arith, r.2))

fresh_is : (to_kiss : Bool) (level : ℕ) → fresh_converter to_kiss level ≡ record { to_kiss = to_kiss; level = level; state = place (fresh (source_rules to_kiss level)); tally = fresh_tally }
fresh_is true level = refl
fresh_is false level = refl

-- with a level of 0 or 1, a reader's buffer of 2,561 octets or more, and an out buffer with room for every frame, whatever they hold
module _ (to_kiss : Bool) (level : ℕ) (h : level ≤ max_level) (m out : List ℕ) (segment : max_segment ≤ length m) (room : max_frame ≤ length out) (xss : List (List ℕ)) where
  abbrev texts : texting.Written (State ℕ) Tally
  texts = text_chunks (report_text to_kiss level) counted max_frame (step (source_rules to_kiss level)) (fresh (source_rules to_kiss level)) fresh_tally xss m out

  abbrev pub written : Written
  written = convert_chunks (fresh_converter to_kiss level) xss m out

  capped : (source_rules to_kiss level).cap ≤ length m
  capped = omega (arith, cap_is to_kiss level)

  fit : Fit (source_rules to_kiss level) (fresh (source_rules to_kiss level)) m
  fit = record { room = capped; formed = fresh_formed (source_rules to_kiss level) (lawful to_kiss level) }

  written_is : written ≡ record { text = texts.text; converter = record { to_kiss = to_kiss; level = level; state = place texts.state; tally = texts.tally }; buffer = texts.buffer; out = texts.out }
  written_is =
      ap (λ (c : Converter). convert_chunks c xss m out) (fresh_is to_kiss level)
      ∙ chunks_is to_kiss level h xss (fresh (source_rules to_kiss level)) fresh_tally m out fit room

  makes : Makes (report_text to_kiss level) counted max_frame (step (source_rules to_kiss level)) (Fit (source_rules to_kiss level)) (step_keeps (source_rules to_kiss level) (lawful to_kiss level)) (texts_short to_kiss level)
      (fresh (source_rules to_kiss level)) fresh_tally (flatten xss) m out texts
  makes =
      chunks_make (report_text to_kiss level) counted max_frame (step (source_rules to_kiss level)) (Fit (source_rules to_kiss level)) (step_keeps (source_rules to_kiss level) (lawful to_kiss level)) (texts_short to_kiss level)
      xss (fresh (source_rules to_kiss level)) fresh_tally m out fit room

  -- 1. However a capture is cut into chunks, what a caller of the converter writes out, call after call, is the line of the capture's frames, in order.
  pub converts_the_capture : written.text ≡ conversion_of to_kiss level (flatten xss)
  converts_the_capture = ap (λ (w : Written). w.text) written_is ∙ makes.text_is ∙ texts_of_the_capture to_kiss level m segment (flatten xss)

  -- 2. The tally then has the numbers of frames, of 63s and of other reports of the capture, of fewer than 2^64 octets.
  pub counts_the_reports : length (flatten xss) < 2 ^ 64
      → let t = written.converter.tally in
      let c = source_counts to_kiss level (flatten xss) in
      (t.frames ≡ c.frames) × (t.skipped ≡ c.skipped) × (t.others ≡ c.others)
  counts_the_reports few =
      let e = ap (λ (w : Written). w.converter.tally) written_is ∙ makes.tally_is in
      let r = tally_of_the_capture to_kiss level m segment (flatten xss) few in
      (ap (λ (t : Tally). t.frames) e ∙ r.0, ap (λ (t : Tally). t.skipped) e ∙ r.1, ap (λ (t : Tally). t.others) e ∙ r.2)

-- 3. What is written reports exactly the capture's frames, and nothing else, in order.
pub to_kiss_reports_the_frames : (level : ℕ) (l : List ℕ) → reports_of kiss_rules.rules (conversion_of true level l) ≡ map kiss_rules.framed (qaft_frames level l)
to_kiss_reports_the_frames level l = kiss_line_reports (qaft_frames level l) (source_writable true level l)

pub to_qaft_reports_the_frames : (level : ℕ) (l : List ℕ) → reports_of (qaft_rules.rules level sum_kind) (conversion_of false level l) ≡ map qaft_rules.framed (kiss_frames l)
to_qaft_reports_the_frames level l = qaft_line_reports level (kiss_frames l) (source_writable false level l)

-- 4. There and back, from a QAFT capture and from a KISS capture, gives the same list of frames, whichever level the QAFT line in between or at the end has.
pub qaft_there_and_back : (level level' : ℕ) (l : List ℕ) → qaft_frames level' (conversion_of false level' (conversion_of true level l)) ≡ qaft_frames level l
qaft_there_and_back level level' l =
    let k = conversion_of true level l in
    qaft_line_frames level' (kiss_frames k) (source_writable false level' k) ∙ kiss_line_frames (qaft_frames level l) (source_writable true level l)

pub kiss_there_and_back : (level : ℕ) (l : List ℕ) → kiss_frames (conversion_of true level (conversion_of false level l)) ≡ kiss_frames l
kiss_there_and_back level l =
    let k = conversion_of false level l in
    kiss_line_frames (qaft_frames level k) (source_writable true level k) ∙ qaft_line_frames level (kiss_frames l) (source_writable false level l)

-- 5. The three counts add up to the number of reports.
counts_add_up : {R : Type 0} (gist : R → Gist) (rs : List (Reported R)) → let c = counts_of gist rs in c.frames + c.skipped + c.others ≡ length rs
unfolding counts_of
counts_add_up gist [] = refl
counts_add_up gist (r ∷ rs) = go (gist r.report) (counts_add_up gist rs)
  where
    go : (g : Gist) → (let c = counts_of gist rs in c.frames + c.skipped + c.others ≡ length rs) → let c = count_before g (counts_of gist rs) in c.frames + c.skipped + c.others ≡ suc (length rs)
    go (Frame n) e = omega (arith, e)
    go Skipped e = omega (arith, e)
    go Other e = omega (arith, e)

pub qaft_counts_add_up : (level : ℕ) (l : List ℕ) → let c = qaft_counts level l in c.frames + c.skipped + c.others ≡ length (reports_of (qaft_rules.rules level sum_kind) l)
qaft_counts_add_up level l = counts_add_up gist_of_qaft (reports_of (qaft_rules.rules level sum_kind) l)

pub kiss_counts_add_up : (l : List ℕ) → let c = kiss_counts l in c.frames + c.skipped + c.others ≡ length (reports_of kiss_rules.rules l)
kiss_counts_add_up l = counts_add_up gist_of_kiss (reports_of kiss_rules.rules l)
