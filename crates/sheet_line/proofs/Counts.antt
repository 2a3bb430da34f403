-- Loops over the counts of a record: their text, and the sum of those that are reports. Assumes nothing.
use Prim.Native.Nat.{ℕ, ◌+◌, ◌*◌, ◌≤◌, ◌<◌}
use mathlib.Core.List.{List, [], ◌∷◌, ◌++◌, append_assoc, append-nil}
use mathlib.Core.Path.{◌≡◌, refl, sym, ap, ap₂, ◌∙◌, subst}
use native.Mathlib.Numerals.{add-one}
use native.Mathlib.Omega.{arith}
use lib.ListN.{length, get_or, take, length-append}
use lib.Seq.{take-suc, length-take-le}
use Rattle.fraction.specs.Fraction.{lowest_of}
use Rattle.fraction.specs.declared.Fraction.{Fraction}
use Rattle.octets.specs.Put.{put_into, put_end}
use Rattle.sheet.specs.Limits.{counts_long}
use Rattle.sheet_line.specs.Line.{reports_in, bad_checks_in, share, counts_text, counts_room}
use Rattle.text.proofs.Putting.{placed, placed-++, room_behind, placed_then}
use Rattle.text.proofs.Text.{length-decimal}
use Rattle.text.specs.Placed.{Placed}
use Rattle.text.specs.Text.{ascii, decimal, max_digits}

pub length-counts_text : (cs : List ℕ) → length (counts_text cs) ≤ length cs * (max_digits + 1)
unfolding counts_text
length-counts_text [] = omega arith
length-counts_text (c ∷ cs) = omega (arith, length-append (decimal c) (counts_text cs), length-decimal c, length-counts_text cs)

counts_text-++ : (cs ds : List ℕ) → counts_text (cs ++ ds) ≡ counts_text cs ++ counts_text ds
unfolding counts_text
counts_text-++ [] ds = refl
counts_text-++ (c ∷ cs) ds =
    ap (λ (t : List ℕ). ascii " " ++ t) (ap (λ (t : List ℕ). decimal c ++ t) (counts_text-++ cs ds) ∙ sym (append_assoc (decimal c) (counts_text cs) (counts_text ds)))

counts_text-one : (c : ℕ) → counts_text (c ∷ []) ≡ ascii " " ++ decimal c
unfolding counts_text
counts_text-one c = ap (λ (t : List ℕ). ascii " " ++ t) (append-nil (decimal c))

-- a loop that stands at count i
module _ (cs : List ℕ) (i : ℕ) (long : length cs ≡ counts_long) where
  module _ (h : i < counts_long) where
    counts_text-next : counts_text (take (i + 1) cs) ≡ counts_text (take i cs) ++ (ascii " " ++ decimal (get_or cs i 0))
    counts_text-next =
        ap (λ (k : ℕ). counts_text (take k cs)) (add-one i)
        ∙ ap counts_text (take-suc cs i 0 (omega arith))
        ∙ counts_text-++ (take i cs) (get_or cs i 0 ∷ [])
        ∙ ap (λ (t : List ℕ). counts_text (take i cs) ++ t) (counts_text-one (get_or cs i 0))

    -- its text behind that of those before it
    pub counts_next : (m m₁ m₂ m₃ : List ℕ) (at to a b n : ℕ) → at + counts_room ≤ length m → Placed m at (counts_text (take i cs)) m₁ to
        → a ≡ put_end (ascii " ") m₁ to → m₂ ≡ put_into (ascii " ") m₁ to → n ≡ get_or cs i 0 → b ≡ put_end (decimal n) m₂ a → m₃ ≡ put_into (decimal n) m₂ a
        → Placed m at (counts_text (take (i + 1) cs)) m₃ b
    counts_next m m₁ m₂ m₃ at to a b n room p e₁ d₁ e e₂ d₂ =
        let few : length (counts_text (take i cs)) ≤ i * (max_digits + 1) = omega (arith, length-counts_text (take i cs), length-take-le i cs (omega arith)) in
        let r = room_behind (i * (max_digits + 1)) (max_digits + 1) m at (counts_text (take i cs)) m₁ to few (omega arith) p in
        let q = placed_then 1 max_digits (ascii " ") m₁ to m₂ a (omega arith) (omega arith) e₁ d₁ in
        let s = placed (decimal n) m₂ a m₃ b (omega (arith, length-decimal n, q.1)) e₂ d₂ in
        let t : counts_text (take i cs) ++ (ascii " " ++ decimal n) ≡ counts_text (take (i + 1) cs) = ap (λ (k : ℕ). counts_text (take i cs) ++ (ascii " " ++ decimal k)) e ∙ sym counts_text-next in
        subst (λ (u : List ℕ). Placed m at u m₃ b) t (placed-++ _ _ (counts_text (take i cs)) _ _ _ _ _ p (placed-++ _ _ (ascii " ") _ _ _ _ _ q.0 s))

-- the share of what was added
pub share_of : (cs : List ℕ) (f : Fraction) (bad reports : ℕ) → f ≡ lowest_of bad reports → bad ≡ bad_checks_in cs → reports ≡ reports_in cs → f ≡ share cs
unfolding share
share_of cs f bad reports e b r = e ∙ ap₂ lowest_of b r
