-- The frames of a capture have 1 to 2,560 octets each, so that they can be written; written and read again they are the same. Assumes nothing.
use Prim.Native.Nat.{ℕ, ◌+◌, ◌≤◌, ◌<◌}
use mathlib.Core.Bool.{Bool}
use mathlib.Core.List.{List, [], ◌∷◌, map}
use mathlib.Core.Path.{◌≡◌, refl, ap, ◌∙◌}
use native.Mathlib.Omega.{arith}
use borrow.Author.Tests.{ltb-false}
use lib.Dec.{ltb}
use lib.ListN.{length}
use Rattle.common.proofs.Bools.{either}
use Rattle.common.proofs.Each.{Each, each-++}
use Rattle.conversion_laws.proofs.Texts.{size_is}
use Rattle.conversion_laws.specs.Frames.{frame_before, frames_of, kiss_frames, qaft_frames}
use Rattle.converter.proofs.Rules.{Within, lawful, verdict_within}
use Rattle.converter.specs.Gist.{gist_of_qaft, gist_of_kiss, source_rules}
use Rattle.converter.specs.declared.Gist.{Gist}
use Rattle.converter.specs.declared.Gist.TheVariants.{Frame, Skipped, Other}
use Rattle.framing.proofs.Written.{reports_of-frames}
use Rattle.framing.proofs.Shown.{length-shown}
use Rattle.framing.specs.Reports.{Reported, Unescaped, shown, unescape, unskipped, check_of, judged, reports_of_octets, reports_of_segment, reports_of_segments, reports_of, segments, after_flag}
use Rattle.framing.specs.Step.{capped}
use Rattle.kiss.specs.Frame as kiss
use Rattle.kiss.specs.Octets as kiss_octets
use Rattle.kiss_laws.proofs.Rules as kiss_laws
use Rattle.kiss_rules.specs.Rules as kiss_rules
use Rattle.qaft.specs.Escape as qaft_escape
use Rattle.qaft.specs.Frame as qaft
use Rattle.qaft.specs.Frame.{Writable}
use Rattle.qaft.specs.Limits.{sum_kind, max_data}
use Rattle.qaft_laws.proofs.Rules as qaft_laws
use Rattle.qaft_rules.specs.Rules as qaft_rules

-- ---- a report that is a frame shows 1 to 2,560 octets, as many as it says
abbrev FineBy : Gist → ℕ → Type 0
FineBy (Frame n) k = (1 ≤ n) × (n ≤ max_data) × (k ≡ n)
FineBy Skipped k = Unit
FineBy Other k = Unit

abbrev Fine : Reported Gist → Type 0
Fine r = FineBy r.report (length r.octets)

module _ (to_kiss : Bool) (level : ℕ) where
  capped_most : (n : ℕ) → capped (source_rules to_kiss level) n ≤ n
  capped_most n = either (λ (k : ℕ). k ≤ n) (ltb n ((source_rules to_kiss level).cap + 1)) (λ _. omega arith) (λ e. ltb-false n ((source_rules to_kiss level).cap + 1) e)

  judged_fine : (u : Unescaped) → Fine (judged (source_rules to_kiss level) u)
  unfolding judged
  judged_fine u =
      let n = capped (source_rules to_kiss level) (length u.octets) in
      let a = check_of (source_rules to_kiss level) u.octets in
      go ((source_rules to_kiss level).verdict u.dangling u.bad n a) (verdict_within to_kiss level u.dangling u.bad n a) ((lawful to_kiss level).shows_stored u.dangling u.bad n a)
    where
      go : (g : Gist) → Within g → (0 < (source_rules to_kiss level).size g → ((source_rules to_kiss level).from g + (source_rules to_kiss level).size g ≤ capped (source_rules to_kiss level) (length u.octets)) × (capped (source_rules to_kiss level) (length u.octets) ≤ (source_rules to_kiss level).cap))
          → FineBy g (length (shown u.octets ((source_rules to_kiss level).from g) ((source_rules to_kiss level).size g)))
      go (Frame n) w s =
          let z = size_is to_kiss level (Frame n) in
          let k = s (omega (arith, z, w.0)) in
          (w.0, w.1, length-shown u.octets _ _ (omega (arith, k.0, capped_most (length u.octets))) ∙ z)
      go Skipped w s = tt
      go Other w s = tt

  octets_fine : (s : List ℕ) → Each Fine (reports_of_octets (source_rules to_kiss level) s)
  unfolding reports_of_octets
  octets_fine [] = tt
  octets_fine (x ∷ xs) = (judged_fine (unescape (source_rules to_kiss level) (x ∷ xs)), tt)

  segments_fine : (ss : List (List ℕ)) → Each Fine (reports_of_segments (source_rules to_kiss level) ss)
  unfolding reports_of_segments reports_of_segment
  segments_fine [] = tt
  segments_fine (s ∷ ss) = each-++ Fine (reports_of_octets (source_rules to_kiss level) (unskipped (source_rules to_kiss level) s)) (reports_of_segments (source_rules to_kiss level) ss) (octets_fine (unskipped (source_rules to_kiss level) s)) (segments_fine ss)

  reports_fine : (l : List ℕ) → Each Fine (reports_of (source_rules to_kiss level) l)
  unfolding reports_of
  reports_fine l = segments_fine (segments (source_rules to_kiss level) (after_flag (source_rules to_kiss level) l))

  fine_writable : (rs : List (Reported Gist)) → Each Fine rs → Writable (frames_of (λ g. g) rs)
  unfolding frames_of
  fine_writable [] ok = tt
  fine_writable (r ∷ rs) ok = go r.report ok.0 (fine_writable rs ok.1)
    where
      go : (g : Gist) → FineBy g (length r.octets) → Writable (frames_of (λ g. g) rs) → Writable (frame_before g r.octets (frames_of (λ g. g) rs))
      go (Frame n) f ih = (omega (arith, f.0, f.2), omega (arith, f.1, f.2), ih)
      go Skipped f ih = ih
      go Other f ih = ih

  pub frames_writable : (l : List ℕ) → Writable (frames_of (λ g. g) (reports_of (source_rules to_kiss level) l))
  frames_writable l = fine_writable (reports_of (source_rules to_kiss level) l) (reports_fine l)

-- ---- the frames of a line of frames
kiss_framed : (ds : List (List ℕ)) → frames_of gist_of_kiss (map kiss_rules.framed ds) ≡ ds
unfolding frames_of
kiss_framed [] = refl
kiss_framed (d ∷ ds) = ap (λ (l : List (List ℕ)). d ∷ l) (kiss_framed ds)

qaft_framed : (ds : List (List ℕ)) → frames_of gist_of_qaft (map qaft_rules.framed ds) ≡ ds
unfolding frames_of
qaft_framed [] = refl
qaft_framed (d ∷ ds) = ap (λ (l : List (List ℕ)). d ∷ l) (qaft_framed ds)

-- reading a line of frames reports exactly those frames
pub kiss_line_reports : (ds : List (List ℕ)) → Writable ds → reports_of kiss_rules.rules (kiss.line ds) ≡ map kiss_rules.framed ds
unfolding kiss.line
kiss_line_reports ds ok = reports_of-frames kiss_rules.rules kiss_octets.writing kiss_laws.undoes kiss.typed kiss_rules.framed ds (kiss_laws.all_accepted ds ok)

pub qaft_line_reports : (level : ℕ) (ds : List (List ℕ)) → Writable ds → reports_of (qaft_rules.rules level sum_kind) (qaft.line level sum_kind ds) ≡ map qaft_rules.framed ds
unfolding qaft.line
qaft_line_reports level ds ok = reports_of-frames (qaft_rules.rules level sum_kind) (qaft_escape.writing level) (qaft_laws.undoes level sum_kind) (qaft.sealed sum_kind) qaft_rules.framed ds (qaft_laws.all_accepted level sum_kind ds ok)

pub kiss_line_frames : (ds : List (List ℕ)) → Writable ds → kiss_frames (kiss.line ds) ≡ ds
kiss_line_frames ds ok = ap (frames_of gist_of_kiss) (kiss_line_reports ds ok) ∙ kiss_framed ds

pub qaft_line_frames : (level : ℕ) (ds : List (List ℕ)) → Writable ds → qaft_frames level (qaft.line level sum_kind ds) ≡ ds
qaft_line_frames level ds ok = ap (frames_of gist_of_qaft) (qaft_line_reports level ds ok) ∙ qaft_framed ds
