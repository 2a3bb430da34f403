-- Octets between two flags: those in reported segments, which are all that are not skipped, and the skipped ones. Assumes nothing.
use Prim.Native.Nat.{ℕ, suc, ◌+◌}
use mathlib.Core.Bool.{Bool, true, false, cond}
use mathlib.Core.List.{List, [], ◌∷◌, map}
use mathlib.Core.Path.{◌≡◌, refl, sym, ap, ap₂, ◌∙◌}
use native.Mathlib.Omega.{arith}
use lib.Dec.{eqb}
use lib.ListN.{length}
use Rattle.capture.specs.Whole.{closed, between}
use Rattle.framing.proofs.PlainReading.{segments_first}
use Rattle.framing.proofs.Segments.{segments_unskipped, after_flag-unskipped}
use Rattle.framing.specs.Flags.{has_flag}
use Rattle.framing.specs.Reports.{at_front, after_flag, segments, unskipped, reports_of_octets, reports_of_segment}
use Rattle.framing.specs.Stored.{up_to_flag}
use Rattle.qaft.proofs.Escape.{flow_control_no_flag}
use Rattle.qaft.specs.Escape.{flag, is_flow_control}
use Rattle.qaft.specs.Limits.{sum_kind}
use Rattle.qaft_rules.specs.Rules.{rules}
use Rattle.sheet_rules.specs.Counts.{octets_of, octets_reported, skipped_of, octets_skipped}

-- all octets of segments
abbrev octets_in : List (List ℕ) → ℕ
octets_in [] = 0
octets_in (s ∷ ss) = length s + octets_in ss

module _ (level : ℕ) where
  -- a segment with nothing but skipped octets is not reported, and has none to be counted
  octets_reported_lem : (s t : List ℕ) → unskipped (rules level sum_kind) s ≡ t → octets_of level s (reports_of_octets (rules level sum_kind) t) ≡ length t
  unfolding reports_of_octets
  octets_reported_lem s [] e = refl
  octets_reported_lem s (x ∷ t) e = omega (arith, ap length e)

  reported_all : (ss : List (List ℕ)) → octets_reported level ss ≡ octets_in (map (unskipped (rules level sum_kind)) ss)
  unfolding octets_reported reports_of_segment
  reported_all [] = refl
  reported_all (s ∷ ss) = ap₂ (λ (m n : ℕ). m + n) (octets_reported_lem s (unskipped (rules level sum_kind) s) refl) (reported_all ss)

  -- an octet of a segment is skipped, or it is not
  skipped_or_not : (s : List ℕ) → skipped_of level s + length (unskipped (rules level sum_kind) s) ≡ length s
  unfolding skipped_of unskipped
  skipped_or_not [] = refl
  skipped_or_not (x ∷ s) = go (is_flow_control level x) (skipped_or_not s)
    where
      go : (b : Bool) → skipped_of level s + length (unskipped (rules level sum_kind) s) ≡ length s
          → cond b (suc (skipped_of level s)) (skipped_of level s) + length (cond b (unskipped (rules level sum_kind) s) (x ∷ unskipped (rules level sum_kind) s)) ≡ suc (length s)
      go true ih = omega (arith, ih)
      go false ih = omega (arith, ih)

  skipped_all : (ss : List (List ℕ)) → octets_skipped level ss + octets_in (map (unskipped (rules level sum_kind)) ss) ≡ octets_in ss
  unfolding octets_skipped
  skipped_all [] = refl
  skipped_all (s ∷ ss) = omega (arith, skipped_or_not s, skipped_all ss)

  -- an octet before a flag joins a segment; where no flag comes it joins none
  joined : (x : ℕ) (l : List ℕ) (h : Bool) → has_flag flag l ≡ h → octets_in (at_front x (segments (rules level sum_kind) l)) ≡ cond h (suc (octets_in (segments (rules level sum_kind) l))) 0
  unfolding at_front
  joined x l h e =
      let u = up_to_flag (rules level sum_kind) l in
      let v = segments (rules level sum_kind) (after_flag (rules level sum_kind) l) in
      let q : segments (rules level sum_kind) l ≡ cond h (u ∷ v) [] = segments_first (rules level sum_kind) l ∙ ap (λ (h : Bool). cond h (u ∷ v) []) e in
      ap (λ (ss : List (List ℕ)). octets_in (at_front x ss)) q ∙ go h u v ∙ ap (λ (ss : List (List ℕ)). cond h (suc (octets_in ss)) 0) (sym q)
    where
      go : (h : Bool) (u : List ℕ) (v : List (List ℕ)) → octets_in (at_front x (cond h (u ∷ v) [])) ≡ cond h (suc (octets_in (cond h (u ∷ v) []))) 0
      go true u v = omega arith
      go false u v = refl

  segments_closed : (l : List ℕ) → octets_in (segments (rules level sum_kind) l) ≡ closed flag l
  unfolding segments closed
  segments_closed [] = refl
  segments_closed (x ∷ l) = go (eqb x flag) (segments_closed l)
    where
      go : (b : Bool) → octets_in (segments (rules level sum_kind) l) ≡ closed flag l
          → octets_in (cond b ([] ∷ segments (rules level sum_kind) l) (at_front x (segments (rules level sum_kind) l))) ≡ cond b (closed flag l) (cond (has_flag flag l) (suc (closed flag l)) 0)
      go true ih = omega (arith, ih)
      go false ih = joined x l (has_flag flag l) refl ∙ ap (λ (n : ℕ). cond (has_flag flag l) (suc n) 0) ih

  segments_between : (l : List ℕ) → octets_in (segments (rules level sum_kind) (after_flag (rules level sum_kind) l)) ≡ between flag l
  unfolding after_flag between segments
  segments_between [] = refl
  segments_between (x ∷ l) = go (eqb x flag) (segments_between l)
    where
      go : (b : Bool) → octets_in (segments (rules level sum_kind) (after_flag (rules level sum_kind) l)) ≡ between flag l
          → octets_in (segments (rules level sum_kind) (cond b l (after_flag (rules level sum_kind) l))) ≡ cond b (closed flag l) (between flag l)
      go true ih = segments_closed l
      go false ih = ih

  -- segments of the capture
  abbrev segments_of : List ℕ → List (List ℕ)
  segments_of l = segments (rules level sum_kind) (after_flag (rules level sum_kind) l)

  segments_of-unskipped : (l : List ℕ) → segments_of (unskipped (rules level sum_kind) l) ≡ map (unskipped (rules level sum_kind)) (segments_of l)
  segments_of-unskipped l =
      ap (segments (rules level sum_kind)) (after_flag-unskipped (rules level sum_kind) (flow_control_no_flag level) l)
      ∙ segments_unskipped (rules level sum_kind) (flow_control_no_flag level) (after_flag (rules level sum_kind) l)

  -- in reported segments: those between two flags of the capture without skipped octets
  pub reported_between : (l : List ℕ) → octets_reported level (segments (rules level sum_kind) (after_flag (rules level sum_kind) l)) ≡ between flag (unskipped (rules level sum_kind) l)
  reported_between l = reported_all (segments_of l) ∙ ap octets_in (sym (segments_of-unskipped l)) ∙ segments_between (unskipped (rules level sum_kind) l)

  -- with the skipped ones: all between two flags
  pub skipped_between : (l : List ℕ)
      → octets_skipped level (segments (rules level sum_kind) (after_flag (rules level sum_kind) l)) + octets_reported level (segments (rules level sum_kind) (after_flag (rules level sum_kind) l)) ≡ between flag l
  skipped_between l = omega (arith, reported_all (segments_of l), skipped_all (segments_of l), segments_between l)

-- at level 0 there are none
skipped_none_of : (s : List ℕ) → skipped_of 0 s ≡ 0
unfolding skipped_of is_flow_control
skipped_none_of [] = refl
skipped_none_of (x ∷ s) = skipped_none_of s

pub skipped_none : (ss : List (List ℕ)) → octets_skipped 0 ss ≡ 0
unfolding octets_skipped
skipped_none [] = refl
skipped_none (s ∷ ss) = ap₂ (λ (m n : ℕ). m + n) (skipped_none_of s) (skipped_none ss)
