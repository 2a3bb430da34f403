-- The texts of a converter's reports are the frames that they show, written one after another; its tally counts them. Assumes nothing.
use Prim.Native.Nat.{ℕ, suc, ◌+◌, ◌^◌, ◌<◌}
use mathlib.Core.Bool.{Bool, true, false}
use mathlib.Core.List.{List, [], ◌∷◌, ◌++◌}
use mathlib.Core.Path.{◌≡◌, refl, sym, ap, ap₂, ◌∙◌}
use native.Mathlib.Omega.{arith}
use lib.ListN.{length}
use Rattle.counter.proofs.Counting.{next_small}
use Rattle.counter.specs.Counted.{next}
use Rattle.conversion_laws.specs.Frames.{Counts, frame_before, count_before, frames_of, counts_of, target_line}
use Rattle.converter.specs.Convert.{counted, report_text}
use Rattle.converter.specs.Gist.{source_rules, data_from, gist_length, frame_of, text_of}
use Rattle.converter.specs.declared.Gist.{Gist}
use Rattle.converter.specs.declared.Gist.TheVariants.{Frame, Skipped, Other}
use Rattle.converter.specs.declared.Tally.{Tally}
use Rattle.framing.specs.Reports.{Reported, shown, shown_reports}
use Rattle.framing.specs.Writing as framing
use Rattle.kiss.proofs.Frame as kiss_frame
use Rattle.kiss.specs.Frame as kiss
use Rattle.line.specs.Texts.{texts_of, tally_of}
use Rattle.line.specs.Trace.{Event}
use Rattle.qaft.proofs.Frame as qaft_frame
use Rattle.qaft.specs.Frame as qaft
use Rattle.qaft.specs.Limits.{sum_kind}

-- frames written one at a time
abbrev frames_text : (to_kiss : Bool) (level : ℕ) (at_flag : Bool) → List (List ℕ) → List ℕ
frames_text to_kiss level at_flag [] = []
frames_text to_kiss level at_flag (d ∷ ds) = frame_of to_kiss level at_flag d ++ frames_text to_kiss level true ds

kiss_text : (level : ℕ) (at_flag : Bool) (ds : List (List ℕ)) → frames_text true level at_flag ds ≡ kiss.frames at_flag ds
unfolding kiss.frames kiss.frame framing.frames
kiss_text level at_flag [] = refl
kiss_text level at_flag (d ∷ ds) = ap (λ (l : List ℕ). kiss.frame at_flag d ++ l) (kiss_text level true ds)

qaft_text : (level : ℕ) (at_flag : Bool) (ds : List (List ℕ)) → frames_text false level at_flag ds ≡ qaft.frames level sum_kind at_flag ds
unfolding qaft.frames qaft.frame framing.frames
qaft_text level at_flag [] = refl
qaft_text level at_flag (d ∷ ds) = ap (λ (l : List ℕ). qaft.frame level sum_kind at_flag d ++ l) (qaft_text level true ds)

pub text_line : (to_kiss : Bool) (level : ℕ) (ds : List (List ℕ)) → frames_text to_kiss level false ds ≡ target_line to_kiss level ds
text_line true level ds = kiss_text level false ds ∙ kiss_frame.frames_line ds
text_line false level ds = qaft_text level false ds ∙ qaft_frame.frames_line level sum_kind ds

-- what the rules show of a report is what the converter writes
pub from_is : (to_kiss : Bool) (level : ℕ) (g : Gist) → (source_rules to_kiss level).from g ≡ data_from to_kiss
from_is true level g = refl
from_is false level g = refl

pub size_is : (to_kiss : Bool) (level : ℕ) (g : Gist) → (source_rules to_kiss level).size g ≡ gist_length g
size_is true level g = refl
size_is false level g = refl

module _ (to_kiss : Bool) (level : ℕ) where
  abbrev pub shows : List (Event Gist) → List (Reported Gist)
  shows es = shown_reports (source_rules to_kiss level) es

  pub texts_frames : (es : List (Event Gist)) (t : Tally) → texts_of (report_text to_kiss level) counted t es ≡ frames_text to_kiss level t.at_flag (frames_of (λ g. g) (shows es))
  unfolding texts_of shown_reports frames_of
  texts_frames [] t = refl
  texts_frames (e ∷ es) t = by e.report (ap₂ (λ (i n : ℕ). shown e.buffer i n) (sym (from_is to_kiss level e.report)) (sym (size_is to_kiss level e.report))) (texts_frames es (counted t e.report))
    where
      by : (g : Gist) → shown e.buffer (data_from to_kiss) (gist_length g) ≡ shown e.buffer ((source_rules to_kiss level).from g) ((source_rules to_kiss level).size g)
          → texts_of (report_text to_kiss level) counted (counted t g) es ≡ frames_text to_kiss level (counted t g).at_flag (frames_of (λ g. g) (shows es))
          → text_of to_kiss level t.at_flag g e.buffer ++ texts_of (report_text to_kiss level) counted (counted t g) es
          ≡ frames_text to_kiss level t.at_flag (frame_before g (shown e.buffer ((source_rules to_kiss level).from g) ((source_rules to_kiss level).size g)) (frames_of (λ g. g) (shows es)))
      by (Frame n) q ih = ap₂ (λ (d l : List ℕ). frame_of to_kiss level t.at_flag d ++ l) q ih
      by Skipped q ih = ih
      by Other q ih = ih

  -- ---- as long as no count wraps
  -- the tally k counts c more than the tally t
  abbrev pub Counted : (k t : Tally) (c : Counts) → Type 0
  Counted k t c = (k.frames ≡ t.frames + c.frames) × (k.skipped ≡ t.skipped + c.skipped) × (k.others ≡ t.others + c.others)

  one_more : (n k : ℕ) → n + suc k < 2 ^ 64 → next n ≡ n + 1
  one_more n k h = next_small n k h

  pub tally_counts : (es : List (Event Gist)) (t : Tally) → t.frames + t.skipped + t.others + length es < 2 ^ 64
      → Counted (tally_of (report_text to_kiss level) counted t es) t (counts_of (λ g. g) (shows es))
  unfolding tally_of shown_reports counts_of
  tally_counts [] t few = (omega arith, omega arith, omega arith)
  tally_counts (e ∷ es) t few = by e.report (tally_counts es (counted t e.report))
    where
      by : (g : Gist) → ((counted t g).frames + (counted t g).skipped + (counted t g).others + length es < 2 ^ 64 → Counted (tally_of (report_text to_kiss level) counted (counted t g) es) (counted t g) (counts_of (λ g. g) (shows es)))
          → Counted (tally_of (report_text to_kiss level) counted (counted t g) es) t (count_before g (counts_of (λ g. g) (shows es)))
      by (Frame n) ih =
          let k = one_more t.frames (length es) (omega arith) in
          let r = ih (omega (arith, k, few)) in
          (omega (arith, r.0, k), r.1, r.2)
      by Skipped ih =
          let k = one_more t.skipped (length es) (omega arith) in
          let r = ih (omega (arith, k, few)) in
          (r.0, omega (arith, r.1, k), r.2)
      by Other ih =
          let k = one_more t.others (length es) (omega arith) in
          let r = ih (omega (arith, k, few)) in
          (r.0, r.1, omega (arith, r.2, k))
