-- A written line reports its frames. Over lists alone. Assumes nothing.
use Prim.Native.Nat.{ℕ, ◌<◌}
use mathlib.Core.Bool.{Bool, true, false}
use mathlib.Core.List.{List, [], ◌∷◌, ◌++◌, append_assoc, map}
use mathlib.Core.Path.{◌≡◌, refl, ap, ap₂, ◌∙◌}
use native.Mathlib.Omega.{arith}
use lib.ListN.{length}
use Rattle.common.proofs.Each.{Each}
use Rattle.framing.proofs.Segments.{unskipped-++, reports_of-opening}
use Rattle.framing.proofs.Unescape.{unescape_pair, unescape_plain}
use Rattle.framing.specs.Reports.{Reported, Unescaped, at_front, after_flag, segments, unskipped, onto, onto_pair, unescape, judged, reports_of_octets, reports_of_segment, reports_of_segments, reports_of}
use Rattle.framing.specs.Rules.{Rules}
use Rattle.framing.specs.Writing.{Writing, escaped_one, escaped, bodies, line, Undoes}

-- octets with no escape left over and no bad pair
abbrev pub whole : List ℕ → Unescaped
whole xs = record { octets = xs; dangling = false; bad = false }

-- a thing d, written as body d, is judged the frame of d
abbrev pub Accepted : {A R D : Type 0} (rules : Rules A R) (body : D → List ℕ) (frame : D → Reported R) → D → Type 0
Accepted rules body frame d = (0 < length (body d)) × (judged rules (whole (body d)) ≡ frame d)

module _ {A R : Type 0} (rules : Rules A R) (writing : Writing) (undoes : Undoes rules writing) where
  -- one octet: it stays in its segment, nothing of it is skipped, and it is undone to itself
  one_segments : (x : ℕ) (ys s : List ℕ) (ss : List (List ℕ)) (b : Bool) → writing.escapes x ≡ b → segments rules ys ≡ s ∷ ss
      → segments rules (escaped_one writing x ++ ys) ≡ (escaped_one writing x ++ s) ∷ ss
  unfolding escaped_one segments at_front
  one_segments x ys s ss true q e = rw (q, undoes.escape_kept.0, (undoes.partner_kept x q).0, e)
  one_segments x ys s ss false q e = rw (q, (undoes.plain x q).0, e)

  one_unskipped : (x : ℕ) (b : Bool) → writing.escapes x ≡ b → unskipped rules (escaped_one writing x) ≡ escaped_one writing x
  unfolding escaped_one unskipped
  one_unskipped x true q = rw (q, undoes.escape_kept.1, (undoes.partner_kept x q).1)
  one_unskipped x false q = rw (q, (undoes.plain x q).2)

  one_unescape : (x : ℕ) (s : List ℕ) (b : Bool) → writing.escapes x ≡ b → unescape rules (escaped_one writing x ++ s) ≡ onto x (unescape rules s)
  unfolding escaped_one onto_pair onto
  one_unescape x s true q =
      rw q (unescape_pair rules writing.escape (writing.behind x) s undoes.escape_is
      ∙ rw ((undoes.pair x q).0, (undoes.pair x q).1))
  one_unescape x s false q = rw q (unescape_plain rules x s (undoes.plain x q).1)

  -- octets
  pub segments_escaped : (xs ys : List ℕ) → segments rules (escaped writing xs ++ (writing.flag ∷ ys)) ≡ escaped writing xs ∷ segments rules ys
  unfolding escaped segments
  segments_escaped [] ys = rw undoes.flag_is
  segments_escaped (x ∷ xs) ys =
      rw (append_assoc (escaped_one writing x) (escaped writing xs) (writing.flag ∷ ys))
      (one_segments x (escaped writing xs ++ (writing.flag ∷ ys)) (escaped writing xs) (segments rules ys) (writing.escapes x) refl (segments_escaped xs ys))

  pub unskipped_escaped : (xs : List ℕ) → unskipped rules (escaped writing xs) ≡ escaped writing xs
  unfolding escaped unskipped
  unskipped_escaped [] = refl
  unskipped_escaped (x ∷ xs) =
      unskipped-++ rules (escaped_one writing x) (escaped writing xs)
      ∙ ap₂ (λ (s t : List ℕ). s ++ t) (one_unskipped x (writing.escapes x) refl) (unskipped_escaped xs)

  -- escaping is undone
  pub unescape_escaped : (xs : List ℕ) → unescape rules (escaped writing xs) ≡ whole xs
  unfolding escaped unescape onto
  unescape_escaped [] = refl
  unescape_escaped (x ∷ xs) = one_unescape x (escaped writing xs) (writing.escapes x) refl ∙ ap (onto x) (unescape_escaped xs)

  -- a segment that stands for octets is not empty
  nonempty : (s b : List ℕ) → unescape rules s ≡ whole b → 0 < length b → reports_of_octets rules s ≡ judged rules (whole b) ∷ []
  unfolding unescape reports_of_octets
  nonempty [] b e h = let z : 0 ≡ length b = ap (λ (u : Unescaped). length u.octets) e in let q : ⊥ = omega arith in absurd q
  nonempty (x ∷ s) b e h = ap (λ (u : Unescaped). judged rules u ∷ []) e

  -- a written body has one report
  pub reports_escaped : (b : List ℕ) → 0 < length b → reports_of_segment rules (escaped writing b) ≡ judged rules (whole b) ∷ []
  unfolding reports_of_segment
  reports_escaped b h = rw (unskipped_escaped b) (nonempty (escaped writing b) b (unescape_escaped b) h)

  reports_bodies : (bs : List (List ℕ)) → Each (λ (b : List ℕ). 0 < length b) bs
      → reports_of_segments rules (segments rules (bodies writing bs)) ≡ map (λ (b : List ℕ). judged rules (whole b)) bs
  unfolding bodies segments reports_of_segments
  reports_bodies [] ok = refl
  reports_bodies (b ∷ bs) ok = rw (segments_escaped b (bodies writing bs), reports_escaped b ok.0, reports_bodies bs ok.1)

  -- a written line has the report of each body
  pub reports_of-line : (bs : List (List ℕ)) → Each (λ (b : List ℕ). 0 < length b) bs → reports_of rules (line writing bs) ≡ map (λ (b : List ℕ). judged rules (whole b)) bs
  unfolding line reports_of after_flag segments reports_of_segments
  reports_of-line [] ok = refl
  reports_of-line (b ∷ bs) ok = reports_of-opening rules writing.flag (bodies writing (b ∷ bs)) undoes.flag_is ∙ reports_bodies (b ∷ bs) ok

  -- and where each is accepted, the frames come back
  module _ {D : Type 0} (body : D → List ℕ) (frame : D → Reported R) where
    accepted_bodies : (ds : List D) → Each (Accepted rules body frame) ds → Each (λ (b : List ℕ). 0 < length b) (map body ds)
    accepted_bodies [] ok = tt
    accepted_bodies (d ∷ ds) ok = (ok.0.0, accepted_bodies ds ok.1)

    accepted_frames : (ds : List D) → Each (Accepted rules body frame) ds → map (λ (b : List ℕ). judged rules (whole b)) (map body ds) ≡ map frame ds
    accepted_frames [] ok = refl
    accepted_frames (d ∷ ds) ok = ap₂ (λ (r : Reported R) (rs : List (Reported R)). r ∷ rs) ok.0.1 (accepted_frames ds ok.1)

    pub reports_of-frames : (ds : List D) → Each (Accepted rules body frame) ds → reports_of rules (line writing (map body ds)) ≡ map frame ds
    reports_of-frames ds ok = reports_of-line (map body ds) (accepted_bodies ds ok) ∙ accepted_frames ds ok
