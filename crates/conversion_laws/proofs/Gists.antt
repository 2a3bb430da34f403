-- Frames and counts by the gists of reports are those by the reports. Assumes nothing.
use mathlib.Core.List.{List, [], ◌∷◌, map}
use mathlib.Core.Path.{◌≡◌, refl, ap}
use Rattle.conversion_laws.specs.Frames.{frame_before, count_before, frames_of, counts_of}
use Rattle.converter.specs.declared.Gist.{Gist}
use Rattle.framing.specs.Reports.{Reported}
use Rattle.framing.specs.Told.{told_report}

module _ {R : Type 0} (gist : R → Gist) where
  pub frames_told : (rs : List (Reported R)) → frames_of (λ g. g) (map (told_report gist) rs) ≡ frames_of gist rs
  unfolding frames_of
  frames_told [] = refl
  frames_told (r ∷ rs) = ap (frame_before (gist r.report) r.octets) (frames_told rs)

  pub counts_told : (rs : List (Reported R)) → counts_of (λ g. g) (map (told_report gist) rs) ≡ counts_of gist rs
  unfolding counts_of
  counts_told [] = refl
  counts_told (r ∷ rs) = ap (count_before (gist r.report)) (counts_told rs)
