-- The frames of a capture, and the reports that are none, counted: over the reports of the whole capture. Cited by the theorems and by the contracts of
-- the functions that convert a capture held whole. Assumes nothing.
--
--   qaft_frames level l, kiss_frames l   the frames of a capture, in order
--   Counts                             how many frames, how many 63s, how many other reports
use Rattle.std.specs.Prelude.{ℕ, suc, Bool, cond, List, [], ◌∷◌}
use Rattle.converter.specs.Gist.{gist_of_qaft, gist_of_kiss}
use Rattle.converter.specs.declared.Gist.{Gist}
use Rattle.converter.specs.declared.Gist.TheVariants.{Frame, Skipped, Other}
use Rattle.framing.specs.Reports.{Reported, reports_of}
use Rattle.kiss.specs.Frame as kiss
use Rattle.kiss_rules.specs.Rules as kiss_rules
use Rattle.qaft.specs.Frame as qaft
use Rattle.qaft.specs.Limits.{sum_kind}
use Rattle.qaft_rules.specs.Rules as qaft_rules

-- a report's octets before other frames, if it is a frame
abbrev pub frame_before : Gist → List ℕ → List (List ℕ) → List (List ℕ)
frame_before (Frame n) d ds = d ∷ ds
frame_before Skipped d ds = ds
frame_before Other d ds = ds

pub record Counts : Type 0 where
  pub frames : ℕ
  pub skipped : ℕ
  pub others : ℕ

-- one more report
abbrev pub count_before : Gist → Counts → Counts
count_before (Frame n) c = record { frames = suc c.frames; skipped = c.skipped; others = c.others }
count_before Skipped c = record { frames = c.frames; skipped = suc c.skipped; others = c.others }
count_before Other c = record { frames = c.frames; skipped = c.skipped; others = suc c.others }

module _ {R : Type 0} (gist : R → Gist) where
  -- the frames of a list of reports, in order
  unfoldable pub frames_of : List (Reported R) → List (List ℕ)
  frames_of [] = []
  frames_of (r ∷ rs) = frame_before (gist r.report) r.octets (frames_of rs)

  -- "how many, how many 63s and how many other reports"
  unfoldable pub counts_of : List (Reported R) → Counts
  counts_of [] = record { frames = 0; skipped = 0; others = 0 }
  counts_of (r ∷ rs) = count_before (gist r.report) (counts_of rs)

-- of a capture
abbrev pub qaft_frames : (level : ℕ) (l : List ℕ) → List (List ℕ)
qaft_frames level l = frames_of gist_of_qaft (reports_of (qaft_rules.rules level sum_kind) l)

abbrev pub kiss_frames : (l : List ℕ) → List (List ℕ)
kiss_frames l = frames_of gist_of_kiss (reports_of kiss_rules.rules l)

abbrev pub qaft_counts : (level : ℕ) (l : List ℕ) → Counts
qaft_counts level l = counts_of gist_of_qaft (reports_of (qaft_rules.rules level sum_kind) l)

abbrev pub kiss_counts : (l : List ℕ) → Counts
kiss_counts l = counts_of gist_of_kiss (reports_of kiss_rules.rules l)

-- ---- by which way a conversion goes
-- the frames and the counts of the capture that is read
abbrev pub source_frames : (to_kiss : Bool) (level : ℕ) (l : List ℕ) → List (List ℕ)
source_frames to_kiss level l = cond to_kiss (qaft_frames level l) (kiss_frames l)

abbrev pub source_counts : (to_kiss : Bool) (level : ℕ) (l : List ℕ) → Counts
source_counts to_kiss level l = cond to_kiss (qaft_counts level l) (kiss_counts l)

-- the line that is written
abbrev pub target_line : (to_kiss : Bool) (level : ℕ) → List (List ℕ) → List ℕ
target_line to_kiss level ds = cond to_kiss (kiss.line ds) (qaft.line level sum_kind ds)

-- "a conversion writes the frames in order": the octets written of a capture
abbrev pub conversion_of : (to_kiss : Bool) (level : ℕ) (l : List ℕ) → List ℕ
conversion_of to_kiss level l = target_line to_kiss level (source_frames to_kiss level l)
