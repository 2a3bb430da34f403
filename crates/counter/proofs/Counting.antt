-- Laws of counters. Assumes nothing.
use Prim.Native.Nat.{ℕ, suc, ◌+◌, ◌^◌, ◌≤◌, ◌<◌}
use mathlib.Core.Bool.{Bool, true, false, cond}
use mathlib.Core.Path.{◌≡◌, refl, sym, ap, ◌∙◌}
use native.Mathlib.Nat.{add-zero}
use native.Mathlib.Omega.{arith}
use borrow.Author.Tests.{le-leb, lt-leb, leb-true, leb-false}
use lib.Dec.{leb}
use Rattle.counter.specs.Counted.{counted, next}

module _ (most n k : ℕ) where
  -- the three cases
  pub counted_stays : most ≤ n → counted most n k ≡ n
  unfolding counted
  counted_stays h = rw (le-leb most n h)

  pub counted_stops : n < most → most ≤ n + k → counted most n k ≡ most
  unfolding counted
  counted_stops h r = rw (lt-leb most n h, le-leb most (n + k) r)

  pub counted_goes : n + k < most → counted most n k ≡ n + k
  unfolding counted
  counted_goes h = let z : n < most = omega arith in rw (lt-leb most n z, lt-leb most (n + k) h)

  -- what holds in each of them
  pub counted_ind : (P : ℕ → Type 0) → (most ≤ n → P n) → (n < most → most ≤ n + k → P most) → (n + k < most → P (n + k)) → P (counted most n k)
  unfolding counted
  counted_ind P a b c = go (leb most n) refl (leb most (n + k)) refl
    where
      go : (x : Bool) → leb most n ≡ x → (y : Bool) → leb most (n + k) ≡ y → P (cond x n (cond y most (n + k)))
      go true e y f = a (leb-true most n e)
      go false e true f = b (leb-false most n e) (leb-true most (n + k) f)
      go false e false f = c (leb-false most (n + k) f)

  pub counted_exact : n + k ≤ most → counted most n k ≡ n + k
  counted_exact h = counted_ind (λ (r : ℕ). r ≡ n + k) (λ a. omega arith) (λ a b. omega arith) (λ a. refl)

pub counted_none : (most n : ℕ) → counted most n 0 ≡ n
counted_none most n = counted_ind most n 0 (λ (r : ℕ). r ≡ n) (λ a. refl) (λ a b. omega arith) (λ a. add-zero n)

-- so many, and so many more
pub counted_more : (most n j k : ℕ) → counted most (counted most n j) k ≡ counted most n (j + k)
counted_more most n j k =
    counted_ind most n j (λ (r : ℕ). counted most r k ≡ counted most n (j + k))
    (λ a. counted_stays most n k a ∙ sym (counted_stays most n (j + k) a))
    (λ a b. counted_stays most most k (omega arith) ∙ sym (counted_stops most n (j + k) a (omega arith)))
    (λ a. counted_ind most (n + j) k (λ (r : ℕ). r ≡ counted most n (j + k))
    (λ b. let z : ⊥ = omega arith in absurd z)
    (λ b c. sym (counted_stops most n (j + k) (omega arith) (omega arith)))
    (λ b. let z : n + j + k ≡ n + (j + k) = omega arith in z ∙ sym (counted_goes most n (j + k) (omega arith))))

-- what is added may have stopped at the same limit
pub counted_stopped : (most n k : ℕ) → counted most n (counted most 0 k) ≡ counted most n k
counted_stopped most n k =
    counted_ind most 0 k (λ (r : ℕ). counted most n r ≡ counted most n k)
    (λ a. counted_stays most n 0 (omega arith) ∙ sym (counted_stays most n k (omega arith)))
    (λ a b. counted_ind most n k (λ (r : ℕ). counted most n most ≡ r)
    (λ c. counted_stays most n most c)
    (λ c d. counted_stops most n most c (omega arith))
    (λ c. let z : ⊥ = omega arith in absurd z))
    (λ a. let z : 0 + k ≡ k = omega arith in ap (counted most n) z)

-- a count that does not wrap
pub next_small : (n k : ℕ) → n + suc k < 2 ^ 64 → next n ≡ n + 1
next_small n k h = omega arith
