-- A plain reader: a line taken apart segment by segment, the segment up to the first flag and then what is left. Over lists alone. Assumes
-- nothing.
use Prim.Native.Nat.{ℕ, zero, suc, ◌≤◌, ◌<◌}
use mathlib.Core.Bool.{Bool, true, false, cond}
use mathlib.Core.List.{List, [], ◌∷◌, ◌++◌}
use mathlib.Core.Path.{◌≡◌, refl, ap, ◌∙◌}
use native.Mathlib.Omega.{arith}
use lib.Dec.{eqb}
use lib.ListN.{length}
use Rattle.common.proofs.Bools.{either}
use Rattle.framing.specs.Flags.{has_flag}
use Rattle.framing.specs.PlainReading.{plain_from, plain_reports}
use Rattle.framing.specs.Reports.{Reported, at_front, after_flag, segments, reports_of_segment, reports_of_segments, reports_of}
use Rattle.framing.specs.Rules.{Rules}
use Rattle.framing.specs.Stored.{up_to_flag}

module _ {A R : Type 0} (rules : Rules A R) where
  -- the first segment, and what is left
  abbrev First : List ℕ → Type 0
  First l = segments rules l ≡ cond (has_flag rules.flag l) (up_to_flag rules l ∷ segments rules (after_flag rules l)) []

  first_turn : (x : ℕ) (xs : List ℕ) → First xs → First (x ∷ xs)
  unfolding segments has_flag up_to_flag after_flag at_front
  first_turn x xs ih =
      either (λ (ss : List (List ℕ)). ss ≡ cond (has_flag rules.flag (x ∷ xs)) (up_to_flag rules (x ∷ xs) ∷ segments rules (after_flag rules (x ∷ xs))) []) (eqb x rules.flag)
      (λ e. rw e)
      (λ e. rw e (ap (at_front x) ih ∙ go (has_flag rules.flag xs)))
    where
      go : (b : Bool)
          → at_front x (cond b (up_to_flag rules xs ∷ segments rules (after_flag rules xs)) []) ≡ cond b ((x ∷ up_to_flag rules xs) ∷ segments rules (after_flag rules xs)) []
      go true = refl
      go false = refl

  first_none : First []
  unfolding segments has_flag
  first_none = refl

  pub segments_first : (l : List ℕ) → segments rules l ≡ cond (has_flag rules.flag l) (up_to_flag rules l ∷ segments rules (after_flag rules l)) []
  segments_first [] = first_none
  segments_first (x ∷ xs) = first_turn x xs (segments_first xs)

  -- less is left
  after_flag-shorter : (l : List ℕ) → length (after_flag rules l) ≤ length l
  unfolding after_flag
  after_flag-shorter [] = omega arith
  after_flag-shorter (x ∷ xs) =
      let ih = after_flag-shorter xs in
      either (λ (l : List ℕ). length l ≤ suc (length xs)) (eqb x rules.flag) (λ _. omega arith) (λ _. omega arith)

  pub after_flag-less : (l : List ℕ) → has_flag rules.flag l ≡ true → length (after_flag rules l) < length l
  unfolding after_flag has_flag
  after_flag-less [] e = let z : ◌≡◌ {A = ℕ} 0 1 = cc in absurd (omega arith)
  after_flag-less (x ∷ xs) e =
      let ih = after_flag-shorter xs in
      either (λ (l : List ℕ). length l < suc (length xs)) (eqb x rules.flag) (λ _. omega arith) (λ _. omega arith)

  plain_turn : (n : ℕ) (l : List ℕ) (b : Bool) → has_flag rules.flag l ≡ b
      → (has_flag rules.flag l ≡ true → plain_from rules n (after_flag rules l) ≡ reports_of_segments rules (segments rules (after_flag rules l)))
      → plain_from rules (suc n) l ≡ reports_of_segments rules (segments rules l)
  unfolding plain_from reports_of_segments
  plain_turn n l true e ih = rw (segments_first l, e) (ap (λ (ds : List (Reported R)). reports_of_segment rules (up_to_flag rules l) ++ ds) (ih e))
  plain_turn n l false e ih = rw (segments_first l, e)

  plain_none : (l : List ℕ) → length l ≡ 0 → plain_from rules 0 l ≡ reports_of_segments rules (segments rules l)
  unfolding plain_from reports_of_segments segments
  plain_none [] e = refl
  plain_none (x ∷ xs) e = let z : ⊥ = omega (arith, e) in absurd z

  plain_from-reports : (n : ℕ) (l : List ℕ) → length l ≤ n → plain_from rules n l ≡ reports_of_segments rules (segments rules l)
  plain_from-reports zero l h = plain_none l (omega arith)
  plain_from-reports (suc n) l h = plain_turn n l (has_flag rules.flag l) refl (λ e. plain_from-reports n (after_flag rules l) (omega (arith, after_flag-less l e)))

  -- the plain reader gives the reports of the line
  pub plain_reports-reports_of : (l : List ℕ) → plain_reports rules l ≡ reports_of rules l
  unfolding plain_reports reports_of
  plain_reports-reports_of l = plain_from-reports (length l) (after_flag rules l) (after_flag-shorter l)
