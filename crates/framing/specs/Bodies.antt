-- Framing: the bodies of a line, as they stand between its flags. Cited by the theorems that a frame has one body. Assumes nothing.
--
--   bodies_of l   what stands between the flags of the line l, without skipped octets; where nothing is left there is no body
--   Octets l     every number of the line is an octet
use Rattle.std.specs.Prelude.{ℕ, ◌<◌, false, List, [], ◌∷◌, ◌≡◌}
use Rattle.framing.specs.Reports.{Reported, Unescaped, after_flag, segments, unskipped, judged}
use Rattle.framing.specs.Rules.{Rules}

abbrev pub Octets : List ℕ → Type 0
Octets [] = Unit
Octets (x ∷ xs) = (x < 256) × Octets xs

-- a body before others; "a stretch of nothing else counts as empty"
unfoldable pub onto_bodies : List ℕ → List (List ℕ) → List (List ℕ)
onto_bodies [] bs = bs
onto_bodies (x ∷ xs) bs = (x ∷ xs) ∷ bs

module _ {A R : Type 0} (rules : Rules A R) where
  unfoldable pub bodies_of_segments : List (List ℕ) → List (List ℕ)
  bodies_of_segments [] = []
  bodies_of_segments (s ∷ ss) = onto_bodies (unskipped rules s) (bodies_of_segments ss)

  unfoldable pub bodies_of : List ℕ → List (List ℕ)
  bodies_of l = bodies_of_segments (segments rules (after_flag rules l))

  -- nothing else is judged the frame of d: no escape is left over, no pair is bad, and the octets are body d, which are written for it
  pub record Faithful {D : Type 0} (body : D → List ℕ) (frame : D → Reported R) : Type 0 where
    pub clean : (d : D) (u : Unescaped) → judged rules u ≡ frame d → (u.dangling ≡ false) × (u.bad ≡ false)
    pub same : (d : D) (u : Unescaped) → judged rules u ≡ frame d → Octets u.octets → u.octets ≡ body d
