-- The pieces of the heading and of the last line, put down one after another where there is room for every one. Assumes nothing.
use Prim.Native.Nat.{ℕ, ◌+◌, ◌≤◌}
use mathlib.Core.Bool.{Bool, true, false}
use mathlib.Core.List.{List, ◌++◌}
use mathlib.Core.Path.{◌≡◌, sym, subst}
use native.Mathlib.Omega.{arith}
use lib.ListN.{length, length-append}
use Rattle.listing_ends.specs.Ends.{heading, end_line, short_line}
use Rattle.octets.specs.Put.{put_into, put_end}
use Rattle.text.specs.Placed.{Placed}
use Rattle.text.proofs.Putting.{placed, placed-++, length-placed}
use Rattle.text.proofs.Text.{length-decimal}
use Rattle.text.specs.Text.{ascii, decimal}

module _ (kiss : Bool) (unset : kiss ≡ false) (level : ℕ) (m m₁ m₂ m₃ : List ℕ) (i a b n : ℕ) (room : i + short_line ≤ length m)
    (e₁ : a ≡ put_end (ascii "QAFT listing level ") m i) (d₁ : m₁ ≡ put_into (ascii "QAFT listing level ") m i)
    (e₂ : b ≡ put_end (decimal level) m₁ a) (d₂ : m₂ ≡ put_into (decimal level) m₁ a)
    (e₃ : n ≡ put_end (ascii "\n") m₂ b) (d₃ : m₃ ≡ put_into (ascii "\n") m₂ b) where
  qaft_heading : Placed m i (heading false level) m₃ n
  unfolding heading
  qaft_heading =
      let few = length-decimal level in
      let p₁ = placed (ascii "QAFT listing level ") m i m₁ a (omega arith) e₁ d₁ in
      let k₁ = length-placed m i (ascii "QAFT listing level ") m₁ a p₁ in
      let p₂ = placed (decimal level) m₁ a m₂ b (omega (arith, few, k₁, p₁.behind)) e₂ d₂ in
      let k₂ = length-placed m₁ a (decimal level) m₂ b p₂ in
      let p₃ = placed (ascii "\n") m₂ b m₃ n (omega (arith, few, k₁, k₂, p₁.behind, p₂.behind)) e₃ d₃ in
      placed-++ _ _ (ascii "QAFT listing level ") _ _ _ _ _ p₁ (placed-++ _ _ (decimal level) _ _ _ _ _ p₂ p₃)

  pub qaft_placed : Placed m i (heading kiss level) m₃ n
  qaft_placed = subst (λ (k : Bool). Placed m i (heading k level) m₃ n) (sym unset) qaft_heading

pub kiss_placed : (kiss : Bool) → kiss ≡ true → (level : ℕ) (m m' : List ℕ) (i n : ℕ) → i + short_line ≤ length m → n ≡ put_end (ascii "KISS listing\n") m i → m' ≡ put_into (ascii "KISS listing\n") m i
    → Placed m i (heading kiss level) m' n
unfolding heading
kiss_placed kiss set level m m' i n room e d =
    subst (λ (k : Bool). Placed m i (heading k level) m' n) (sym set) (placed (ascii "KISS listing\n") m i m' n (omega arith) e d)

pub length-heading : (kiss : Bool) (level : ℕ) → length (heading kiss level) ≤ short_line
unfolding heading
length-heading true level = omega arith
length-heading false level =
    omega (arith, length-append (ascii "QAFT listing level ") (decimal level ++ ascii "\n"), length-append (decimal level) (ascii "\n"), length-decimal level)

module _ (reports before after : ℕ) (m m₁ m₂ m₃ m₄ m₅ m₆ m₇ : List ℕ) (i a b c d e f n : ℕ) (room : i + short_line ≤ length m)
    (e₁ : a ≡ put_end (ascii "end ") m i) (d₁ : m₁ ≡ put_into (ascii "end ") m i)
    (e₂ : b ≡ put_end (decimal reports) m₁ a) (d₂ : m₂ ≡ put_into (decimal reports) m₁ a)
    (e₃ : c ≡ put_end (ascii " before ") m₂ b) (d₃ : m₃ ≡ put_into (ascii " before ") m₂ b)
    (e₄ : d ≡ put_end (decimal before) m₃ c) (d₄ : m₄ ≡ put_into (decimal before) m₃ c)
    (e₅ : e ≡ put_end (ascii " after ") m₄ d) (d₅ : m₅ ≡ put_into (ascii " after ") m₄ d)
    (e₆ : f ≡ put_end (decimal after) m₅ e) (d₆ : m₆ ≡ put_into (decimal after) m₅ e)
    (e₇ : n ≡ put_end (ascii "\n") m₆ f) (d₇ : m₇ ≡ put_into (ascii "\n") m₆ f) where
  pub end_placed : Placed m i (end_line reports before after) m₇ n
  unfolding end_line
  end_placed =
      let r = length-decimal reports in
      let s = length-decimal before in
      let t = length-decimal after in
      let p₁ = placed (ascii "end ") m i m₁ a (omega (arith, r, s, t)) e₁ d₁ in
      let k₁ = length-placed m i (ascii "end ") m₁ a p₁ in
      let p₂ = placed (decimal reports) m₁ a m₂ b (omega (arith, r, s, t, k₁, p₁.behind)) e₂ d₂ in
      let k₂ = length-placed m₁ a (decimal reports) m₂ b p₂ in
      let p₃ = placed (ascii " before ") m₂ b m₃ c (omega (arith, r, s, t, k₁, k₂, p₁.behind, p₂.behind)) e₃ d₃ in
      let k₃ = length-placed m₂ b (ascii " before ") m₃ c p₃ in
      let p₄ = placed (decimal before) m₃ c m₄ d (omega (arith, r, s, t, k₁, k₂, k₃, p₁.behind, p₂.behind, p₃.behind)) e₄ d₄ in
      let k₄ = length-placed m₃ c (decimal before) m₄ d p₄ in
      let p₅ = placed (ascii " after ") m₄ d m₅ e (omega (arith, r, s, t, k₁, k₂, k₃, k₄, p₁.behind, p₂.behind, p₃.behind, p₄.behind)) e₅ d₅ in
      let k₅ = length-placed m₄ d (ascii " after ") m₅ e p₅ in
      let p₆ = placed (decimal after) m₅ e m₆ f (omega (arith, r, s, t, k₁, k₂, k₃, k₄, k₅, p₁.behind, p₂.behind, p₃.behind, p₄.behind, p₅.behind)) e₆ d₆ in
      let k₆ = length-placed m₅ e (decimal after) m₆ f p₆ in
      let p₇ = placed (ascii "\n") m₆ f m₇ n (omega (arith, r, s, t, k₁, k₂, k₃, k₄, k₅, k₆, p₁.behind, p₂.behind, p₃.behind, p₄.behind, p₅.behind, p₆.behind)) e₇ d₇ in
      placed-++ _ _ (ascii "end ") _ _ _ _ _ p₁ (placed-++ _ _ (decimal reports) _ _ _ _ _ p₂ (placed-++ _ _ (ascii " before ") _ _ _ _ _ p₃ (placed-++ _ _ (decimal before) _ _ _ _ _ p₄ (placed-++ _ _ (ascii " after ") _ _ _ _ _ p₅ (placed-++ _ _ (decimal after) _ _ _ _ _ p₆ p₇)))))

pub length-end_line : (reports before after : ℕ) → length (end_line reports before after) ≤ short_line
unfolding end_line
length-end_line reports before after =
    let t₆ = decimal after ++ ascii "\n" in
    let t₅ = ascii " after " ++ t₆ in
    let t₄ = decimal before ++ t₅ in
    let t₃ = ascii " before " ++ t₄ in
    omega (
      arith,
      length-append (ascii "end ") (decimal reports ++ t₃),
      length-append (decimal reports) t₃,
      length-append (ascii " before ") t₄,
      length-append (decimal before) t₅,
      length-append (ascii " after ") t₆,
      length-append (decimal after) (ascii "\n"),
      length-decimal reports,
      length-decimal before,
      length-decimal after,
    )
