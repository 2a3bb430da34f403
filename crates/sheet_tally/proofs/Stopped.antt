-- A count that stopped is too large for every record, and one that did not is exact: a record is judged by the counts as they were gathered as it is by the
-- true ones. Assumes nothing.
use Prim.Native.Nat.{ℕ, ◌+◌, ◌≤◌}
use mathlib.Core.Bool.{Bool, true, ◌&&◌}
use mathlib.Core.List.{List, [], ◌∷◌}
use mathlib.Core.Path.{◌≡◌, refl, sym, ap, ap₂, ◌∙◌}
use native.Mathlib.Nat.{zero-add}
use native.Mathlib.Omega.{arith}
use borrow.Author.Tests.{lt-leb, leb-true, not-false}
use lib.Dec.{leb}
use Rattle.common.proofs.Bools.{and_both}
use Rattle.common.proofs.Refusals.{guarded_same}
use Rattle.common.specs.Refusals.{Refusal, guarded}
use Rattle.counter.proofs.Counting.{counted_ind, counted_exact}
use Rattle.counter.specs.Counted.{counted}
use Rattle.sheet.specs.Limits.{max_count, too_large}
use Rattle.sheet.specs.Tallies.{stopped}
use Rattle.sheet.specs.declared.Counts.{Counts}
use Rattle.sheet.specs.declared.Tally.{Tally}
use Rattle.sheet_tally.specs.Adding.{sums, all_fit, sum_of, refusals, judged_of}

-- ---- one count
fits_stopped : (x y : ℕ) → leb (x + counted too_large 0 y) max_count ≡ leb (x + y) max_count
fits_stopped x y =
    counted_ind too_large 0 y (λ (k : ℕ). leb (x + k) max_count ≡ leb (x + y) max_count)
    (λ a. let z : ⊥ = omega arith in absurd z)
    (λ a b. lt-leb (x + too_large) max_count (omega arith) ∙ sym (lt-leb (x + y) max_count (omega arith)))
    (λ a. ap (λ (k : ℕ). leb (x + k) max_count) (zero-add y))

-- ---- a list of them, added to xs
fit_stopped : (xs ys : List ℕ) → all_fit (sums xs (stopped ys)) ≡ all_fit (sums xs ys)
unfolding all_fit sums
fit_stopped [] ys = refl
fit_stopped (x ∷ xs) [] = refl
fit_stopped (x ∷ xs) (y ∷ ys) = ap₂ (λ (a b : Bool). a && b) (fits_stopped x y) (fit_stopped xs ys)

sums_stopped : (xs ys : List ℕ) → all_fit (sums xs ys) ≡ true → sums xs (stopped ys) ≡ sums xs ys
unfolding all_fit sums
sums_stopped [] ys e = refl
sums_stopped (x ∷ xs) [] e = refl
sums_stopped (x ∷ xs) (y ∷ ys) e =
    let both = and_both (leb (x + y) max_count) (all_fit (sums xs ys)) e in
    let fits : x + y ≤ max_count = leb-true (x + y) max_count both.0 in
    ap₂ (λ (n : ℕ) (l : List ℕ). (x + n) ∷ l) (counted_exact too_large 0 y (omega arith) ∙ zero-add y) (sums_stopped xs ys both.1)

-- ---- a capture's counts: n is their number, cs their true size
module _ (t : Tally) (line lines n : ℕ) (cs : List ℕ) where
  abbrev exact : Counts
  exact = record { number = n; counts = cs }

  abbrev gathered : Counts
  gathered = record { number = n; counts = stopped cs }

  pub refusals_stopped : refusals t line lines gathered ≡ refusals t line lines exact
  unfolding refusals
  refusals_stopped = rw (fit_stopped t.counts cs)

  -- the answer that takes the sum's record, whichever that is
  pub guarded_stopped : {A : Type 0} (refuse : ℕ → A) (done : Tally → A)
      → guarded (refusals t line lines gathered) refuse (done (sum_of t gathered)) ≡ guarded (refusals t line lines exact) refuse (done (sum_of t exact))
  unfolding refusals
  guarded_stopped refuse done =
      ap (λ (ts : List Refusal). guarded ts refuse (done (sum_of t gathered))) refusals_stopped
      ∙ guarded_same refuse (done (sum_of t gathered)) (done (sum_of t exact)) (refusals t line lines exact)
      (λ p. ap (λ (l : List ℕ). done (record { counts = l })) (sums_stopped t.counts cs (not-false _ p.1.1.1.0)))

  pub judged_stopped : judged_of t line lines gathered ≡ judged_of t line lines exact
  unfolding judged_of
  judged_stopped = guarded_stopped (λ n. record { number = n; tally = t }) (λ s. record { number = 0; tally = s })
