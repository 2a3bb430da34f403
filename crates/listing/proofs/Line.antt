-- Laws of the lines of a listing: their lengths, and the pieces of a line put down one after another. Assumes nothing.
use Prim.Native.Nat.{ℕ, ◌+◌, ◌*◌, ◌≤◌, ◌<◌}
use mathlib.Core.List.{List, [], ◌++◌}
use mathlib.Core.Path.{◌≡◌, refl, sym, subst}
use native.Mathlib.Nat.{add-zero}
use native.Mathlib.Omega.{arith}
use lib.ListN.{length, length-append}
use Rattle.listing.specs.Line.{name, details, report_line, line_room}
use Rattle.listing.specs.declared.Entry.{Entry}
use Rattle.listing.specs.declared.Entry.TheVariants.{Frame, Aborted, Long, Short, BadCheck, BadPair, BadEscape, Skipped}
use Rattle.octets.specs.Put.{put_into, put_end}
use Rattle.text.specs.Placed.{Placed}
use Rattle.text.proofs.Putting.{placed, placed-++, length-placed}
use Rattle.text.proofs.Text.{length-hex, length-decimal}
use Rattle.text.specs.Text.{ascii, max_digits, decimal, hex}

pub length-name : (p : Entry) → length (name p) ≤ 8
length-name (Frame n) = omega arith
length-name Aborted = omega arith
length-name Long = omega arith
length-name Short = omega arith
length-name BadCheck = omega arith
length-name BadPair = omega arith
length-name BadEscape = omega arith
length-name Skipped = omega arith

pub length-details : (p : Entry) (d : List ℕ) → length (details p d) ≤ 2 * length d + (max_digits + 2)
unfolding details
length-details (Frame n) d = omega (arith, length-append (decimal (length d)) (ascii " " ++ hex d), length-decimal (length d), length-hex d)
length-details Aborted d = omega arith
length-details Long d = omega arith
length-details Short d = omega arith
length-details BadCheck d = omega arith
length-details BadPair d = omega arith
length-details BadEscape d = omega arith
length-details Skipped d = omega arith

pub length-report_line : (k : ℕ) (p : Entry) (d : List ℕ) → length (report_line k p d) ≤ line_room (length d)
unfolding report_line
length-report_line k p d =
    omega (
      arith,
      length-append (decimal k) (name p ++ (details p d ++ ascii "\n")),
      length-append (name p) (details p d ++ ascii "\n"),
      length-append (details p d) (ascii "\n"),
      length-decimal k,
      length-name p,
      length-details p d,
    )

-- the line of a report: its number, its name, what stands behind it, the newline
module _ (k : ℕ) (p : Entry) (d : List ℕ) (m m₁ m₂ : List ℕ) (i a b : ℕ) (room : i + line_room (length d) ≤ length m)
    (e₁ : a ≡ put_end (decimal k) m i) (d₁ : m₁ ≡ put_into (decimal k) m i)
    (e₂ : b ≡ put_end (name p) m₁ a) (d₂ : m₂ ≡ put_into (name p) m₁ a) where
  numbered : Placed m i (decimal k) m₁ a
  numbered = placed (decimal k) m i m₁ a (omega (arith, length-decimal k)) e₁ d₁

  named : Placed m₁ a (name p) m₂ b
  named = placed (name p) m₁ a m₂ b (omega (arith, length-decimal k, length-name p, numbered.behind, length-placed m i (decimal k) m₁ a numbered)) e₂ d₂

  -- there is room for what stands behind the name
  pub details_room : b + (2 * length d + (max_digits + 2)) < length m₂
  details_room =
      omega (
        arith,
        length-decimal k,
        length-name p,
        numbered.behind,
        named.behind,
        length-placed m i (decimal k) m₁ a numbered,
        length-placed m₁ a (name p) m₂ b named,
      )

  module _ (m₃ m₄ : List ℕ) (c r : ℕ) (q : Placed m₂ b (details p d) m₃ c) (e₄ : r ≡ put_end (ascii "\n") m₃ c) (d₄ : m₄ ≡ put_into (ascii "\n") m₃ c) where
    pub line_placed : Placed m i (report_line k p d) m₄ r
    unfolding report_line
    line_placed =
        let kept = length-placed m₂ b (details p d) m₃ c q in
        let ended = placed (ascii "\n") m₃ c m₄ r (omega (arith, details_room, length-details p d, q.behind, kept)) e₄ d₄ in
        placed-++ _ _ (decimal k) _ _ _ _ _ numbered (placed-++ _ _ (name p) _ _ _ _ _ named (placed-++ _ _ (details p d) _ _ _ _ _ q ended))

-- behind a frame's name: its length and its data
module _ (p : Entry) (n : ℕ) (told : p ≡ Frame n) (d m m₁ m₂ m₃ m₄ : List ℕ) (i a b c r : ℕ) (room : i + (2 * length d + (max_digits + 2)) ≤ length m)
    (e₁ : a ≡ put_end (ascii " ") m i) (d₁ : m₁ ≡ put_into (ascii " ") m i)
    (e₂ : b ≡ put_end (decimal (length d)) m₁ a) (d₂ : m₂ ≡ put_into (decimal (length d)) m₁ a)
    (e₃ : c ≡ put_end (ascii " ") m₂ b) (d₃ : m₃ ≡ put_into (ascii " ") m₂ b)
    (e₄ : r ≡ put_end (hex d) m₃ c) (d₄ : m₄ ≡ put_into (hex d) m₃ c) where
  frame_placed : Placed m i (details (Frame n) d) m₄ r
  unfolding details
  frame_placed =
      let few = length-decimal (length d) in
      let p₁ = placed (ascii " ") m i m₁ a (omega arith) e₁ d₁ in
      let k₁ = length-placed m i (ascii " ") m₁ a p₁ in
      let p₂ = placed (decimal (length d)) m₁ a m₂ b (omega (arith, few, k₁, p₁.behind)) e₂ d₂ in
      let k₂ = length-placed m₁ a (decimal (length d)) m₂ b p₂ in
      let p₃ = placed (ascii " ") m₂ b m₃ c (omega (arith, few, k₁, k₂, p₁.behind, p₂.behind)) e₃ d₃ in
      let k₃ = length-placed m₂ b (ascii " ") m₃ c p₃ in
      let p₄ = placed (hex d) m₃ c m₄ r (omega (arith, few, length-hex d, k₁, k₂, k₃, p₁.behind, p₂.behind, p₃.behind)) e₄ d₄ in
      placed-++ _ _ (ascii " ") _ _ _ _ _ p₁ (placed-++ _ _ (decimal (length d)) _ _ _ _ _ p₂ (placed-++ _ _ (ascii " ") _ _ _ _ _ p₃ p₄))

  pub details_placed : Placed m i (details p d) m₄ r
  details_placed = subst (λ (p : Entry). Placed m i (details p d) m₄ r) (sym told) frame_placed

-- a report that is no frame has nothing behind its name
pub no_details : (p : Entry) (d : List ℕ) → ((n : ℕ) → p ≡ Frame n → ⊥) → details p d ≡ []
unfolding details
no_details (Frame n) d k = absurd (k n refl)
no_details Aborted d k = refl
no_details Long d k = refl
no_details Short d k = refl
no_details BadCheck d k = refl
no_details BadPair d k = refl
no_details BadEscape d k = refl
no_details Skipped d k = refl

-- nothing put is the empty text
pub placed_none : (m : List ℕ) (i : ℕ) (t : List ℕ) → t ≡ [] → Placed m i t m i
placed_none m i t e = record { behind = rw (e, add-zero i); octets = rw e }
