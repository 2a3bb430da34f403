-- Canonical bodies: "a body that reads as a frame is exactly the body our writer makes for it", skipped octets set aside. Over lists alone.
-- Assumes nothing.
use Prim.Native.Nat.{ℕ}
use mathlib.Core.Bool.{Bool, true, false}
use mathlib.Core.List.{List, [], ◌∷◌}
use mathlib.Core.Path.{◌≡◌, refl}
use native.Mathlib.Omega.{arith}
use borrow.Author.Tests.{eqb-true}
use lib.Dec.{eqb}
use Rattle.common.proofs.Bools.{either, or_false_left, or_false_right}
use Rattle.common.proofs.Each.{Each, each_all}
use Rattle.framing.proofs.Unescape.{unescape_pair, unescape_plain}
use Rattle.framing.specs.Reports.{at_front, after_flag, segments, unskipped, onto, onto_pair, unescape}
use Rattle.framing.specs.Rules.{Rules}
use Rattle.framing.specs.Writing.{Writing, escaped_one, escaped, Canonical}

module _ {A R : Type 0} (rules : Rules A R) where
  -- no flag in a list of octets
  abbrev pub NoFlag : List ℕ → Type 0
  NoFlag s = Each (λ (x : ℕ). eqb x rules.flag ≡ false) s

  -- what holds of the octets of a line holds of those behind its first flag
  pub after_flag-each : (P : ℕ → Type 0) (l : List ℕ) → Each P l → Each P (after_flag rules l)
  unfolding after_flag
  after_flag-each P [] h = tt
  after_flag-each P (x ∷ xs) h = either (Each P) (eqb x rules.flag) (λ _. h.1) (λ _. after_flag-each P xs h.1)

  -- of those of its segments, where it need not hold of flags
  at_front-each : (P : ℕ → Type 0) (x : ℕ) (ss : List (List ℕ)) → P x → Each (Each P) ss → Each (Each P) (at_front x ss)
  unfolding at_front
  at_front-each P x [] e h = tt
  at_front-each P x (s ∷ ss) e h = ((e, h.0), h.1)

  pub segments_each : (P : ℕ → Type 0) (l : List ℕ) → Each (λ (x : ℕ). eqb x rules.flag ≡ false → P x) l → Each (Each P) (segments rules l)
  unfolding segments
  segments_each P [] h = tt
  segments_each P (x ∷ xs) h =
      let ih = segments_each P xs h.1 in
      either (Each (Each P)) (eqb x rules.flag) (λ _. (tt, ih)) (λ e. at_front-each P x (segments rules xs) (h.0 e) ih)

  -- and of those that are not skipped
  pub unskipped_each : (P Q : ℕ → Type 0) → ((x : ℕ) → rules.skips x ≡ false → P x → Q x) → (s : List ℕ) → Each P s → Each Q (unskipped rules s)
  unfolding unskipped
  unskipped_each P Q f [] h = tt
  unskipped_each P Q f (x ∷ s) h =
      let ih = unskipped_each P Q f s h.1 in
      either (Each Q) (rules.skips x) (λ _. ih) (λ e. (f x e h.0, ih))

  -- a segment holds no flag
  pub segments_no_flag : (l : List ℕ) → Each NoFlag (segments rules l)
  segments_no_flag l = segments_each (λ (x : ℕ). eqb x rules.flag ≡ false) l (each_all _ (λ x e. e) l)

  -- an octet of a segment that is not skipped
  abbrev pub Raw : ℕ → Type 0
  Raw x = (eqb x rules.flag ≡ false) × (rules.skips x ≡ false)

  pub unskipped_raw : (s : List ℕ) → NoFlag s → Each Raw (unskipped rules s)
  unskipped_raw = unskipped_each (λ (x : ℕ). eqb x rules.flag ≡ false) Raw (λ x e f. (f, e))

  module _ (writing : Writing) (canonical : Canonical rules writing) where
    -- what is undone, written again, is what was read
    abbrev Same : List ℕ → Type 0
    Same s = (unescape rules s).dangling ≡ false → (unescape rules s).bad ≡ false → escaped writing (unescape rules s).octets ≡ s

    same_plain : (x : ℕ) (s : List ℕ) → Raw x → eqb x rules.escape ≡ false → Same s → Same (x ∷ s)
    unfolding escaped escaped_one onto
    same_plain x s h e ih = rw (unescape_plain rules x s e) (λ d b. rw (canonical.raw x h.0 e h.1, ih d b))

    same_pair : (x y : ℕ) (s : List ℕ) → eqb x rules.escape ≡ true → Same s → Same (x ∷ y ∷ s)
    unfolding escaped escaped_one onto_pair
    same_pair x y s e ih =
        rw (unescape_pair rules x y s e)
        (λ d b.
        let g = canonical.good_pair y (or_false_left (rules.bad_pair y) (unescape rules s).bad b) in
        rw (g.0, g.1, ih d (or_false_right (rules.bad_pair y) (unescape rules s).bad b), eqb-true x rules.escape e, eqb-true writing.escape rules.escape canonical.escape_is))

    same_none : Same []
    unfolding unescape escaped
    same_none d b = refl

    same_escape : (x : ℕ) → eqb x rules.escape ≡ true → Same (x ∷ [])
    unfolding unescape
    same_escape x e = rw e (λ d b. let z : ◌≡◌ {A = ℕ} 0 1 = cc in absurd (omega arith))

    same_one : (x : ℕ) → Raw x → (b : Bool) → eqb x rules.escape ≡ b → Same (x ∷ [])
    same_one x h true e = same_escape x e
    same_one x h false e = same_plain x [] h e same_none

    same_two : (x y : ℕ) (s : List ℕ) → Raw x → Same s → Same (y ∷ s) → (b : Bool) → eqb x rules.escape ≡ b → Same (x ∷ y ∷ s)
    same_two x y s h i j true e = same_pair x y s e i
    same_two x y s h i j false e = same_plain x (y ∷ s) h e j

    pub escaped_unescape : (s : List ℕ) → Each Raw s → Same s
    escaped_unescape [] h = same_none
    escaped_unescape (x ∷ []) h = same_one x h.0 (eqb x rules.escape) refl
    escaped_unescape (x ∷ y ∷ s) h = same_two x y s h.0 (escaped_unescape s h.1.1) (escaped_unescape (y ∷ s) h.1) (eqb x rules.escape) refl
