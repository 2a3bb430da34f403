-- Laws of the sum of octets. Assumes nothing.
use Rattle.std.proofs.Common.{◌≡◌, ℕ, suc, ◌+◌, ◌%◌, ◌<◌, ◌≤◌, List, [], ◌∷◌, ◌++◌, length, get_or, drop, ap, ◌∙◌, add-one, arith, drop_of_length-le, drop-cons}
use Rattle.octets.specs.Sum.{sum}

pub sum-++ : (xs ys : List ℕ) → sum (xs ++ ys) ≡ sum xs + sum ys
unfolding sum
sum-++ [] ys = omega arith
sum-++ (x ∷ xs) ys = omega (arith, sum-++ xs ys)

-- a loop that stands at octet i: what is left to add
module _ (xs : List ℕ) (i : ℕ) where
  pub sum_end : length xs ≤ i → sum (drop i xs) ≡ 0
  unfolding sum
  sum_end h = rw (drop_of_length-le xs h)

  pub sum_next : i < length xs → sum (drop i xs) ≡ get_or xs i 0 + sum (drop (i + 1) xs)
  unfolding sum
  sum_next h = rw (add-one, drop-cons xs i 0 h)

-- a sum modulo 256 that runs along with octets, which are counted besides
module _ (run : (n a : ℕ) → List ℕ → ℕ) (none : (n a : ℕ) → run n a [] ≡ a) (more : (n a x : ℕ) (xs : List ℕ) → run n a (x ∷ xs) ≡ run (suc n) ((a + x) % 256) xs) where
  pub running_from : (xs : List ℕ) (n a : ℕ) → run n (a % 256) xs ≡ (a + sum xs) % 256
  unfolding sum
  running_from [] n a = none n (a % 256) ∙ omega arith
  running_from (x ∷ xs) n a =
      let e : (a % 256 + x) % 256 ≡ (a + x) % 256 = omega arith in
      let f : a + x + sum xs ≡ a + (x + sum xs) = omega arith in
      more n (a % 256) x xs ∙ ap (λ (b : ℕ). run (suc n) b xs) e ∙ running_from xs (suc n) (a + x) ∙ ap (λ (k : ℕ). k % 256) f

  -- from any number, where an octet comes
  pub running_sum : (xs : List ℕ) (n a : ℕ) → 0 < length xs → run n a xs ≡ (a + sum xs) % 256
  unfolding sum
  running_sum [] n a h = absurd (omega (arith, h))
  running_sum (x ∷ xs) n a h =
      let f : a + x + sum xs ≡ a + (x + sum xs) = omega arith in
      more n a x xs ∙ running_from xs (suc n) (a + x) ∙ ap (λ (k : ℕ). k % 256) f
