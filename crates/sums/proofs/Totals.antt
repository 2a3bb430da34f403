-- Laws of totals. Assumes nothing.
use Rattle.std.proofs.Common.{◌≡◌, ℕ, zero, suc, ◌+◌, ◌-◌, ◌*◌, ◌%◌, ◌<◌, List, [], ◌∷◌, ◌++◌, length, sum, take, get_or, length-take-le, sym, refl, ap, ◌∙◌, arith, eq-eqb, ne_eqb}
use Rattle.std.proofs.lemmas.List.Sums.{sum_by-cons}
use Rattle.sums.proofs.Sum.{sum-++}
use Rattle.sums.specs.Sum.{end_around_add, sum_from}
use Rattle.sums.specs.Total.{reduced, Totals}

pub reduced_0 : (v : ℕ) → v ≡ 0 → 0 ≡ reduced v
reduced_0 v e = rw (eq-eqb v 0 e)

pub reduced_more : (v : ℕ) → (v ≡ 0 → ⊥) → (v - 1) % 255 + 1 ≡ reduced v
reduced_more v h = rw (ne_eqb v 0 h)

-- a sum is reduced as it is
pub reduced_sum : (s : ℕ) → s < 256 → s ≡ reduced (s + 0)
reduced_sum zero h = refl
reduced_sum (suc s) h =
    let e : suc s ≡ (suc s + 0 - 1) % 255 + 1 = omega arith in
    e ∙ reduced_more (suc s + 0) (λ e. omega arith)

-- an octet more
reduced_add : (v x : ℕ) → x < 256 → end_around_add (reduced v) x ≡ reduced (v + x)
reduced_add zero zero h = refl
reduced_add zero (suc x) h =
    let e : end_around_add 0 (suc x) ≡ (0 + suc x - 1) % 255 + 1 = omega arith in
    e ∙ reduced_more (0 + suc x) (λ e. omega arith)
reduced_add (suc v) x h =
    let e : end_around_add ((suc v - 1) % 255 + 1) x ≡ (suc v + x - 1) % 255 + 1 = omega arith in
    ap (λ (s : ℕ). end_around_add s x) (sym (reduced_more (suc v) (λ e. omega arith))) ∙ e ∙ reduced_more (suc v + x) (λ e. omega arith)

-- octets are totalled by their sum
totalled : (v : ℕ) (xs : List ℕ) → ((j : ℕ) → get_or xs j 0 < 256) → sum_from (reduced v) xs ≡ reduced (v + sum xs)
unfolding sum_from
totalled v [] h = let e : v ≡ v + sum [] = omega arith in ap reduced e
totalled v (x ∷ xs) h =
    let e : v + x + sum xs ≡ v + sum (x ∷ xs) = omega (arith, sum_by-cons (λ (x : ℕ). x) x xs) in
    ap (λ (s : ℕ). sum_from s xs) (reduced_add v x (h 0)) ∙ totalled (v + x) xs (λ j. h (suc j)) ∙ ap reduced e

pub total_of : (xs : List ℕ) → ((j : ℕ) → get_or xs j 0 < 256) → Totals xs (sum xs)
total_of xs h s k =
    let e : s + 0 + sum xs ≡ s + sum xs = omega arith in
    ap (λ (v : ℕ). sum_from v xs) (reduced_sum s k) ∙ totalled (s + 0) xs h ∙ ap reduced e

-- totals that are alike modulo 255, and both nothing or both something, are reduced alike
reduced_alike : (v w : ℕ) → v % 255 ≡ w % 255 → (v ≡ 0 → w ≡ 0) → (w ≡ 0 → v ≡ 0) → reduced v ≡ reduced w
reduced_alike zero w e f g = reduced_0 w (f refl)
reduced_alike (suc v) zero e f g = sym (reduced_0 (suc v) (g refl))
reduced_alike (suc v) (suc w) e f g =
    let d : (suc v - 1) % 255 + 1 ≡ (suc w - 1) % 255 + 1 = omega arith in
    sym (reduced_more (suc v) (λ e. omega arith)) ∙ d ∙ reduced_more (suc w) (λ e. omega arith)

mod_more : (v k : ℕ) → v % 255 ≡ (v + 255 * k) % 255
mod_more v k = omega arith

reduced_up : (x u y : ℕ) → x + 255 * u ≡ y → (x ≡ 0 → u ≡ 0) → reduced x ≡ reduced y
reduced_up x u y e h = reduced_alike x y (mod_more x u ∙ ap (λ (z : ℕ). z % 255) e) (λ z. omega (arith, h z)) (λ z. omega arith)

none : (v a b c d : ℕ) → v + a + b + c + d ≡ 0 → b + c * 257 + d * 65793 ≡ 0
none v a b c d e =
    let p : b ≡ 0 = omega arith in
    let q : c ≡ 0 = omega arith in
    let r : d ≡ 0 = omega arith in
    omega (arith, p, q, r)

-- a word counts as its octets do
reduced_word : (v a b c d w : ℕ) → w ≡ a + b * 256 + c * 65536 + d * 16777216 → reduced (v + a + b + c + d) ≡ reduced (v + w)
reduced_word v a b c d w e =
    let u : v + a + b + c + d + 255 * (b + c * 257 + d * 65793) ≡ v + w = omega arith in
    reduced_up (v + a + b + c + d) (b + c * 257 + d * 65793) (v + w) u (none v a b c d)

-- a word more, of four octets
pub word_added : (v w : ℕ) (xs ys : List ℕ) → get_or xs 0 0 < 256 → get_or xs 1 0 < 256 → get_or xs 2 0 < 256 → get_or xs 3 0 < 256 → length xs ≡ 4
    → w ≡ get_or xs 0 0 + get_or xs 1 0 * 256 + get_or xs 2 0 * 65536 + get_or xs 3 0 * 16777216
    → sum_from (reduced v) (xs ++ ys) ≡ sum_from (reduced (v + w)) ys
unfolding sum_from
word_added v w [] ys h₀ h₁ h₂ h₃ l e = absurd (omega arith)
word_added v w (a ∷ []) ys h₀ h₁ h₂ h₃ l e = absurd (omega arith)
word_added v w (a ∷ b ∷ []) ys h₀ h₁ h₂ h₃ l e = absurd (omega arith)
word_added v w (a ∷ b ∷ c ∷ []) ys h₀ h₁ h₂ h₃ l e = absurd (omega arith)
word_added v w (a ∷ b ∷ c ∷ d ∷ []) ys h₀ h₁ h₂ h₃ l e =
    ap (λ (s : ℕ). sum_from (end_around_add (end_around_add (end_around_add s b) c) d) ys) (reduced_add v a h₀)
    ∙ ap (λ (s : ℕ). sum_from (end_around_add (end_around_add s c) d) ys) (reduced_add (v + a) b h₁)
    ∙ ap (λ (s : ℕ). sum_from (end_around_add s d) ys) (reduced_add (v + a + b) c h₂)
    ∙ ap (λ (s : ℕ). sum_from s ys) (reduced_add (v + a + b + c) d h₃)
    ∙ ap (λ (s : ℕ). sum_from s ys) (reduced_word v a b c d w e)
word_added v w (a ∷ b ∷ c ∷ d ∷ e₁ ∷ xs) ys h₀ h₁ h₂ h₃ l e = absurd (omega arith)

-- a chunk more
pub chunk_added : (s : ℕ) (xs ys : List ℕ) (t : ℕ) → s < 256 → Totals xs t → sum_from s (xs ++ ys) ≡ sum_from (reduced (s + t)) ys
chunk_added s xs ys t h e = sum-++ s xs ys ∙ ap (λ (v : ℕ). sum_from v ys) (e s h)

-- a short slice without what is left behind its words: whole words, and still short
pub whole_words : (xs : List ℕ) → length xs < 32 → (length (take (length xs - length xs % 4) xs) % 4 ≡ 0) × (length (take (length xs - length xs % 4) xs) < 32)
whole_words xs h = let n = length-take-le (length xs - length xs % 4) xs (omega arith) in (omega arith, omega arith)
