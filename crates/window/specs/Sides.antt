-- Two ends of something, and what happens at one of them. Cited by the sliding window and by the statement over octets in `dlc_pair`.
-- Assumes nothing.
use Rattle.std.specs.Prelude.{ℕ, zero, suc, List, [], ◌∷◌}

pub data Side : Type 0 where
  left : Side
  right : Side

abbrev pub opposite : Side → Side
opposite left = right
opposite right = left

-- the two ends
pub record Both (E : Type 0) : Type 0 where
  pub left : E
  pub right : E

-- the ends exchanged: what happens at the right end is what happens at the left one, seen in the mirror
abbrev pub mirror : {E : Type 0} → Both E → Both E
mirror s = record { left = s.right; right = s.left }

-- the end of this side
abbrev pub end_at : {E : Type 0} → Side → Both E → E
end_at left s = s.left
end_at right s = s.right

-- what P asks of events at the left end, asked for the end of the first side of an event at the second: nothing where they differ
abbrev pub AskedAt : {A E : Type 0} → (A → Both E → Type 0) → Side → Side → A → Both E → Type 0
AskedAt P left left a s = P a s
AskedAt P left right a s = Unit {0}
AskedAt P right left a s = Unit {0}
AskedAt P right right a s = P a (mirror s)

-- a list without its element at index n; the same list where it has none there
abbrev pub erase_at : {A : Type 0} → ℕ → List A → List A
erase_at n [] = []
erase_at zero (x ∷ xs) = xs
erase_at (suc n) (x ∷ xs) = x ∷ erase_at n xs
