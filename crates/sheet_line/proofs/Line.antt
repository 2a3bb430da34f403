-- Laws of the printed line: its length, and its pieces put down one after another. Assumes nothing.
use Prim.Native.Nat.{ℕ, ◌+◌, ◌*◌, ◌≤◌}
use mathlib.Core.List.{List, ◌++◌}
use mathlib.Core.Path.{◌≡◌, subst}
use native.Mathlib.Omega.{arith}
use lib.ListN.{length, length-append}
use Rattle.fraction.specs.declared.Fraction.{Fraction}
use Rattle.octets.specs.Put.{put_into, put_end}
use Rattle.sheet.specs.Limits.{counts_long}
use Rattle.sheet_line.proofs.Counts.{length-counts_text}
use Rattle.sheet_line.specs.Line.{share, counts_text, share_text, line_text, counts_room, share_room, line_room}
use Rattle.text.proofs.Putting.{placed, placed-++, room_behind, placed_then}
use Rattle.text.proofs.Text.{length-decimal}
use Rattle.text.specs.Placed.{Placed}
use Rattle.text.specs.Text.{ascii, decimal, max_digits}

pub length-share_text : (f : Fraction) → length (share_text f) ≤ share_room
unfolding share_text
length-share_text f =
    let t = decimal f.denominator ++ ascii "\n" in
    omega (
      arith,
      length-append (decimal f.numerator) (ascii "/" ++ t),
      length-append (decimal f.denominator) (ascii "\n"),
      length-decimal f.numerator,
      length-decimal f.denominator,
    )

-- every line has room where `line_room` is
pub length-line_text : (line : ℕ) (cs : List ℕ) → length cs ≡ counts_long → length (line_text line cs) ≤ line_room
unfolding line_text
length-line_text line cs long =
    omega (
      arith,
      length-append (decimal line) (counts_text cs ++ share_text (share cs)),
      length-append (counts_text cs) (share_text (share cs)),
      length-decimal line,
      length-counts_text cs,
      length-share_text (share cs),
    )

-- the pieces of the share
pub share_placed : (f : Fraction) (m m₁ m₂ m₃ m₄ m₅ : List ℕ) (i a b c d n : ℕ) → i + share_room ≤ length m
    → a ≡ put_end (ascii " ") m i → m₁ ≡ put_into (ascii " ") m i
    → b ≡ put_end (decimal f.numerator) m₁ a → m₂ ≡ put_into (decimal f.numerator) m₁ a
    → c ≡ put_end (ascii "/") m₂ b → m₃ ≡ put_into (ascii "/") m₂ b
    → d ≡ put_end (decimal f.denominator) m₃ c → m₄ ≡ put_into (decimal f.denominator) m₃ c
    → n ≡ put_end (ascii "\n") m₄ d → m₅ ≡ put_into (ascii "\n") m₄ d
    → Placed m i (share_text f) m₅ n
unfolding share_text
share_placed f m m₁ m₂ m₃ m₄ m₅ i a b c d n room e₁ d₁ e₂ d₂ e₃ d₃ e₄ d₄ e₅ d₅ =
    let p₁ = placed_then 1 (2 * max_digits + 2) (ascii " ") m i m₁ a (omega arith) (omega arith) e₁ d₁ in
    let p₂ = placed_then max_digits (max_digits + 2) (decimal f.numerator) m₁ a m₂ b (length-decimal f.numerator) (omega (arith, p₁.1)) e₂ d₂ in
    let p₃ = placed_then 1 (max_digits + 1) (ascii "/") m₂ b m₃ c (omega arith) (omega (arith, p₂.1)) e₃ d₃ in
    let p₄ = placed_then max_digits 1 (decimal f.denominator) m₃ c m₄ d (length-decimal f.denominator) (omega (arith, p₃.1)) e₄ d₄ in
    let p₅ = placed (ascii "\n") m₄ d m₅ n (omega (arith, p₄.1)) e₅ d₅ in
    placed-++ _ _ (ascii " ") _ _ _ _ _ p₁.0 (placed-++ _ _ (decimal f.numerator) _ _ _ _ _ p₂.0 (placed-++ _ _ (ascii "/") _ _ _ _ _ p₃.0 (placed-++ _ _ (decimal f.denominator) _ _ _ _ _ p₄.0 p₅)))

-- the pieces of the line: its number, then the counts, then the share
module _ (line : ℕ) (cs m m₁ : List ℕ) (i a : ℕ) (long : length cs ≡ counts_long) (room : i + line_room ≤ length m)
    (e : a ≡ put_end (decimal line) m i) (d : m₁ ≡ put_into (decimal line) m i) where
  numbered : Placed m i (decimal line) m₁ a × (a + (counts_room + share_room) ≤ length m₁)
  numbered = placed_then max_digits (counts_room + share_room) (decimal line) m i m₁ a (length-decimal line) (omega arith) e d

  pub counts_room_lem : a + counts_room ≤ length m₁
  counts_room_lem = omega (arith, numbered.1)

  module _ (m₂ : List ℕ) (b : ℕ) (p : Placed m₁ a (counts_text cs) m₂ b) where
    pub share_room_lem : b + share_room ≤ length m₂
    share_room_lem = room_behind counts_room share_room m₁ a (counts_text cs) m₂ b (omega (arith, length-counts_text cs)) numbered.1 p

    pub line_placed : (f : Fraction) (m₃ : List ℕ) (n : ℕ) → f ≡ share cs → Placed m₂ b (share_text f) m₃ n → Placed m i (line_text line cs) m₃ n
    unfolding line_text
    line_placed f m₃ n s q =
        let q' = subst (λ (f : Fraction). Placed m₂ b (share_text f) m₃ n) s q in
        placed-++ _ _ (decimal line) _ _ _ _ _ numbered.0 (placed-++ _ _ (counts_text cs) _ _ _ _ _ p q')
