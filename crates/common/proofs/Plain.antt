-- Laws of octets of which none is special. Assumes nothing.
use Prim.Native.Nat.{ℕ, suc, ◌+◌, ◌≤◌, ◌<◌}
use mathlib.Core.Bool.{Bool, true, false, cond}
use mathlib.Core.List.{List, [], ◌∷◌, ◌++◌}
use mathlib.Core.Path.{◌≡◌, refl, sym, ap, ap₂, ◌∙◌}
use native.Mathlib.Numerals.{add-one}
use native.Mathlib.Omega.{arith}
use lib.ListN.{length, get_or, take, drop, drop_of_length-le, take-append-drop, length-drop}
use lib.Seq.{drop-cons, drop-drop, length-take-le}
use Rattle.common.proofs.Bools.{either}
use Rattle.common.specs.Plain.{plain, plain_length}

both : (e c : Bool) → cond e false c ≡ true → (e ≡ false) × (c ≡ true)
both true c h = let y : ◌≡◌ {A = ℕ} 0 1 = cc in absurd (omega arith)
both false c h = (refl, h)

module _ (special : ℕ → Bool) where
  -- a loop that tests all octets xs and stands at octet i; b: those before it are plain
  module _ (xs : List ℕ) (i : ℕ) (b : Bool) where
    swap : (e c : Bool) → cond (cond e false b) c false ≡ cond b (cond e false c) false
    swap true c = by b
      where
        by : (b : Bool) → false ≡ cond b false false
        by true = refl
        by false = refl
    swap false c = refl

    pub plain_next : i < length xs → cond b (plain special (drop i xs)) false ≡ cond (cond (special (get_or xs i 0)) false b) (plain special (drop (i + 1) xs)) false
    unfolding plain
    plain_next h = rw (add-one, drop-cons xs i 0 h) (sym (swap (special (get_or xs i 0)) (plain special (drop (suc i) xs))))

    pub plain_end : length xs ≤ i → cond b (plain special (drop i xs)) false ≡ b
    unfolding plain
    plain_end h = rw (drop_of_length-le xs h) (by b)
      where
        by : (b : Bool) → cond b true false ≡ b
        by true = refl
        by false = refl

  -- the first octet and the others
  pub plain_parts : (x : ℕ) (xs : List ℕ) → plain special (x ∷ xs) ≡ true → (special x ≡ false) × (plain special xs ≡ true)
  unfolding plain
  plain_parts x xs p = both (special x) (plain special xs) p

  -- the number of plain octets at the front is no more than there are, and so many are plain
  pub plain_length-within : (xs : List ℕ) → plain_length special xs ≤ length xs
  unfolding plain_length
  plain_length-within [] = omega arith
  plain_length-within (x ∷ xs) =
      let ih = plain_length-within xs in
      either (λ (n : ℕ). n ≤ suc (length xs)) (special x) (λ _. omega arith) (λ _. omega arith)

  pub plain_length-plain : (xs : List ℕ) → plain special (take (plain_length special xs) xs) ≡ true
  unfolding plain_length plain
  plain_length-plain [] = refl
  plain_length-plain (x ∷ xs) =
      let ih = plain_length-plain xs in
      either (λ (n : ℕ). plain special (take n (x ∷ xs)) ≡ true) (special x) (λ _. refl) (λ e. rw e ih)

  -- plain octets before others
  pub plain_length-++ : (xs ys : List ℕ) → plain special xs ≡ true → plain_length special (xs ++ ys) ≡ length xs + plain_length special ys
  unfolding plain_length plain
  plain_length-++ [] ys p = omega arith
  plain_length-++ (x ∷ xs) ys p =
      let h = plain_parts x xs p in
      rw h.0 (omega (arith, plain_length-++ xs ys h.1))

  -- a loop over the octets xs that stands at octet i, the ones before it plain: a block more, an octet more, a special octet, the end
  module _ (xs : List ℕ) (i : ℕ) where
    pub plain_length-block : (k : ℕ) → i + k ≤ length xs → plain special (take k (drop i xs)) ≡ true → plain_length special (drop i xs) ≡ k + plain_length special (drop (i + k) xs)
    plain_length-block k h p =
        ap (plain_length special) (sym (take-append-drop k (drop i xs)))
        ∙ plain_length-++ (take k (drop i xs)) (drop k (drop i xs)) p
        ∙ ap₂ (λ (n : ℕ) (l : List ℕ). n + plain_length special l) (length-take-le k (drop i xs) (rw (length-drop i xs) (omega arith))) (drop-drop k i xs)

    pub plain_length-next : i < length xs → special (get_or xs i 0) ≡ false → plain_length special (drop i xs) ≡ suc (plain_length special (drop (i + 1) xs))
    unfolding plain_length
    plain_length-next h e = rw (add-one, drop-cons xs i 0 h, e)

    pub plain_length-stop : i < length xs → special (get_or xs i 0) ≡ true → plain_length special (drop i xs) ≡ 0
    unfolding plain_length
    plain_length-stop h e = rw (drop-cons xs i 0 h, e)

    pub plain_length-end : length xs ≤ i → plain_length special (drop i xs) ≡ 0
    unfolding plain_length
    plain_length-end h = rw (drop_of_length-le xs h)

-- octets that are plain by one test are so by a narrower one
pub plain_narrower : (p q : ℕ → Bool) → ((x : ℕ) → p x ≡ false → q x ≡ false) → (xs : List ℕ) → plain p xs ≡ true → plain q xs ≡ true
unfolding plain
plain_narrower p q e [] h = refl
plain_narrower p q e (x ∷ xs) h =
    let k = plain_parts p x xs h in
    rw (e x k.0) (plain_narrower p q e xs k.1)
