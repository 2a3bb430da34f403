-- Laws of the level among a program's arguments, and worked arguments. Assumes nothing.
use Prim.Native.Nat.{ℕ, ◌≤◌, ◌<◌}
use mathlib.Core.Path.{◌≡◌, refl}
use borrow.Author.Tests.{le-leb, lt-leb}
use Rattle.line_sheet.specs.Levels.{level_of}
use Rattle.numerals.specs.Number.{all_digits, value_from, typed_from, typed_of}
use Rattle.std.specs.Prelude.{Option, Some, None}
use Rattle.qaft.specs.Limits.{max_level}
use Rattle.text.specs.Text.{ascii}

-- a level is at most the largest
pub level_is : (t : Option ℕ) (n : ℕ) → t ≡ Some n → n ≤ max_level → level_of t ≡ Some n
unfolding level_of
level_is t n e h = rw (e, le-leb n max_level h)

pub level_over : (t : Option ℕ) (n : ℕ) → t ≡ Some n → max_level < n → level_of t ≡ None
unfolding level_of
level_over t n e h = rw (e, lt-leb n max_level h)

pub level_none : (t : Option ℕ) → ((n : ℕ) → t ≡ Some n → ⊥) → None ≡ level_of t
unfolding level_of
level_none (Some n) h = absurd (h n refl)
level_none None h = refl

level_1 : level_of (typed_of (ascii "1")) ≡ Some 1
unfolding typed_of typed_from value_from all_digits level_of
level_1 = refl

level_2 : level_of (typed_of (ascii "2")) ≡ None
unfolding typed_of typed_from value_from all_digits level_of
level_2 = refl

level_256 : level_of (typed_of (ascii "256")) ≡ None
unfolding typed_of typed_from value_from all_digits level_of
level_256 = refl
