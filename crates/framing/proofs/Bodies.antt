-- A frame has one body: the octets that read as it are those that the writer makes of it, skipped ones set aside. Over lists alone. Assumes nothing.
use Prim.Native.Nat.{ℕ, zero, suc, ◌<◌}
use mathlib.Core.Bool.{Bool, true, false}
use mathlib.Core.List.{List, [], ◌∷◌, ◌++◌, map}
use mathlib.Core.Path.{◌≡◌, refl, sym, ap, ap₂, ◌∙◌, subst}
use native.Mathlib.Omega.{arith}
use lib.ListN.{get_or, drop}
use Rattle.common.proofs.Each.{Each, each_map}
use Rattle.framing.proofs.Canonical.{NoFlag, Raw, after_flag-each, segments_each, unskipped_each, segments_no_flag, unskipped_raw, escaped_unescape}
use Rattle.framing.specs.Bodies.{Octets, onto_bodies, bodies_of_segments, bodies_of, Faithful}
use Rattle.framing.specs.Reports.{Reported, after_flag, segments, unskipped, unescape, judged, reports_of_octets, reports_of_segment, reports_of_segments, reports_of}
use Rattle.framing.specs.Rules.{Rules}
use Rattle.framing.specs.Writing.{Writing, escaped_one, escaped, Canonical}

-- ---- octets, one by one
abbrev Octet : ℕ → Type 0
Octet x = x < 256

octets_each : (xs : List ℕ) → Octets xs → Each Octet xs
octets_each [] h = tt
octets_each (x ∷ xs) h = (h.0, octets_each xs h.1)

each_octets : (xs : List ℕ) → Each Octet xs → Octets xs
each_octets [] h = tt
each_octets (x ∷ xs) h = (h.0, each_octets xs h.1)

pub octets_get_d : (xs : List ℕ) (i : ℕ) → Octets xs → get_or xs i 0 < 256
octets_get_d [] i h = omega arith
octets_get_d (x ∷ xs) zero h = h.0
octets_get_d (x ∷ xs) (suc i) h = octets_get_d xs i h.1

pub octets-++ : (xs ys : List ℕ) → Octets xs → Octets ys → Octets (xs ++ ys)
octets-++ [] ys h k = k
octets-++ (x ∷ xs) ys h k = (h.0, octets-++ xs ys h.1 k)

pub octets-drop : (n : ℕ) (xs : List ℕ) → Octets xs → Octets (drop n xs)
octets-drop zero xs h = h
octets-drop (suc n) [] h = tt
octets-drop (suc n) (x ∷ xs) h = octets-drop n xs h.1

module _ {A R : Type 0} (rules : Rules A R) where
  -- those of a line are those of its segments, skipped ones removed
  segments_octets : (l : List ℕ) → Octets l → Each (Each Octet) (segments rules (after_flag rules l))
  segments_octets l h = segments_each rules Octet (after_flag rules l) (each_map Octet _ (λ x o _. o) (after_flag rules l) (after_flag-each rules Octet l (octets_each l h)))

  unskipped_octets : (s : List ℕ) → Each Octet s → Each Octet (unskipped rules s)
  unskipped_octets = unskipped_each rules Octet Octet (λ x _ o. o)

  -- where nothing is skipped
  pub unskipped_none : ((x : ℕ) → rules.skips x ≡ false) → (s : List ℕ) → unskipped rules s ≡ s
  unfolding unskipped
  unskipped_none h [] = refl
  unskipped_none h (x ∷ s) = rw (h x, unskipped_none h s)

  -- ---- every report is that of a body
  report_of_body : (b : List ℕ) (bs : List (List ℕ)) (rs : List (Reported R)) → map (λ (b : List ℕ). judged rules (unescape rules b)) bs ≡ rs
      → map (λ (b : List ℕ). judged rules (unescape rules b)) (onto_bodies b bs) ≡ reports_of_octets rules b ++ rs
  unfolding onto_bodies reports_of_octets
  report_of_body [] bs rs e = e
  report_of_body (x ∷ b) bs rs e = ap (λ (rs : List (Reported R)). judged rules (unescape rules (x ∷ b)) ∷ rs) e

  reports_of_segments_lem : (ss : List (List ℕ)) → map (λ (b : List ℕ). judged rules (unescape rules b)) (bodies_of_segments rules ss) ≡ reports_of_segments rules ss
  unfolding bodies_of_segments reports_of_segments reports_of_segment
  reports_of_segments_lem [] = refl
  reports_of_segments_lem (s ∷ ss) = report_of_body (unskipped rules s) (bodies_of_segments rules ss) (reports_of_segments rules ss) (reports_of_segments_lem ss)

  pub reports_of_bodies : (l : List ℕ) → map (λ (b : List ℕ). judged rules (unescape rules b)) (bodies_of rules l) ≡ reports_of rules l
  unfolding bodies_of reports_of
  reports_of_bodies l = reports_of_segments_lem (segments rules (after_flag rules l))

-- ---- what is written in octets is written of octets
module _ {A R : Type 0} (rules : Rules A R) (writing : Writing) (canonical : Canonical rules writing) where
  one_octets : (x : ℕ) (ys : List ℕ) (b : Bool) → writing.escapes x ≡ b → Each Octet (escaped_one writing x ++ ys) → Octet x × Each Octet ys
  unfolding escaped_one
  one_octets x ys true e = rw e (λ h. (canonical.octet x e, h.1.1))
  one_octets x ys false e = rw e (λ h. h)

  escaped_octets : (xs : List ℕ) → Each Octet (escaped writing xs) → Each Octet xs
  unfolding escaped
  escaped_octets [] h = tt
  escaped_octets (x ∷ xs) h = let k = one_octets x (escaped writing xs) (writing.escapes x) refl h in (k.0, escaped_octets xs k.1)

  -- ---- one body
  module _ {D : Type 0} (body : D → List ℕ) (frame : D → Reported R) (faithful : Faithful rules body frame) where
    -- a body that reads as the frame of d is what is written for it
    abbrev pub Written : List ℕ → Type 0
    Written b = (d : D) → judged rules (unescape rules b) ≡ frame d → b ≡ escaped writing (body d)

    written : (b : List ℕ) → Each (Raw rules) b → Each Octet b → Written b
    written b raw h d e =
        let u = unescape rules b in
        let c = faithful.clean d u e in
        let s : escaped writing u.octets ≡ b = escaped_unescape rules writing canonical b raw c.0 c.1 in
        sym s ∙ ap (escaped writing) (faithful.same d u e (each_octets u.octets (escaped_octets u.octets (subst (Each Octet) (sym s) h))))

    -- as a segment, in which skipped octets may stand
    pub segment_written : (s : List ℕ) → NoFlag rules s → Octets s → (d : D) → reports_of_segment rules s ≡ frame d ∷ [] → unskipped rules s ≡ escaped writing (body d)
    unfolding reports_of_segment reports_of_octets
    segment_written s f h d e = go (unskipped rules s) (written (unskipped rules s) (unskipped_raw rules s f) (unskipped_octets rules s (octets_each s h))) e
      where
        go : (b : List ℕ) → Written b → reports_of_octets rules b ≡ frame d ∷ [] → b ≡ escaped writing (body d)
        go [] w e = cc
        go (x ∷ b) w e = w d cc

    -- the bodies of a line
    onto_written : (b : List ℕ) (bs : List (List ℕ)) → Written b → Each Written bs → Each Written (onto_bodies b bs)
    unfolding onto_bodies
    onto_written [] bs w ws = ws
    onto_written (x ∷ b) bs w ws = (w, ws)

    segments_written : (ss : List (List ℕ)) → Each (NoFlag rules) ss → Each (Each Octet) ss → Each Written (bodies_of_segments rules ss)
    unfolding bodies_of_segments
    segments_written [] f h = tt
    segments_written (s ∷ ss) f h =
        onto_written (unskipped rules s) (bodies_of_segments rules ss) (written (unskipped rules s) (unskipped_raw rules s f.0) (unskipped_octets rules s h.0))
        (segments_written ss f.1 h.1)

    pub bodies_written : (l : List ℕ) → Octets l → Each Written (bodies_of rules l)
    unfolding bodies_of
    bodies_written l h =
        let a = after_flag rules l in
        segments_written (segments rules a) (segments_no_flag rules a) (segments_octets rules l h)

    -- a line that reports frames alone has the bodies that are written for them
    all_written : (bs : List (List ℕ)) (ds : List D) → Each Written bs → map (λ (b : List ℕ). judged rules (unescape rules b)) bs ≡ map frame ds
        → bs ≡ map (λ (d : D). escaped writing (body d)) ds
    all_written [] [] w e = refl
    all_written [] (d ∷ ds) w e = cc
    all_written (b ∷ bs) [] w e = cc
    all_written (b ∷ bs) (d ∷ ds) w e = ap₂ (λ (b : List ℕ) (bs : List (List ℕ)). b ∷ bs) (w.0 d cc) (all_written bs ds w.1 cc)

    pub frames_written : (l : List ℕ) → Octets l → (ds : List D) → reports_of rules l ≡ map frame ds → bodies_of rules l ≡ map (λ (d : D). escaped writing (body d)) ds
    frames_written l h ds e = all_written (bodies_of rules l) ds (bodies_written l h) (reports_of_bodies rules l ∙ e)
