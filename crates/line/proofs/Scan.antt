-- Laws of `scan`. The turns of a loop are stated so that what is left gives the whole. Assumes nothing.
use Prim.Native.Nat.{ℕ, suc, ◌+◌, ◌≤◌, ◌<◌}
use mathlib.Core.List.{List, [], ◌∷◌}
use mathlib.Core.Option.{none, some}
use mathlib.Core.Path.{◌≡◌, refl, sym, ap, ◌∙◌, subst}
use native.Mathlib.Nat.{zero-add, add-zero, add_assoc}
use native.Mathlib.Numerals.{add-one}
use native.Mathlib.Omega.{arith}
use lib.ListN.{length, get_or, drop, set, drop_of_length-le}
use lib.Seq.{drop-cons}
use Rattle.line.specs.Scan.{Action, advance, store, emit, Scan, after, scan_on, scan}

module _ {S R : Type 0} where
  pub after_zero : (u : Scan S R) → u ≡ after 0 u
  unfolding after
  after_zero u = λ i. record { report = u.report; taken = sym (zero-add u.taken) i; state = u.state; buffer = u.buffer }

  pub after_after : (m n : ℕ) (u : Scan S R) → after m (after n u) ≡ after (m + n) u
  unfolding after
  after_after m n u = λ i. record { report = u.report; taken = sym (add_assoc m n u.taken) i; state = u.state; buffer = u.buffer }

-- a loop over the chunk xs that stands at octet i, in the state s, with the buffer m
module _ {S R : Type 0} (f : S → ℕ → Action S R) (s : S) (xs : List ℕ) (i : ℕ) (m : List ℕ) where
  pub scan_end : length xs ≤ i → after i (scan f s (drop i xs) m) ≡ record { report = none; taken = i; state = s; buffer = m }
  unfolding scan after
  scan_end h = rw (drop_of_length-le xs, add-zero i)

  module _ (h : i < length xs) where
    turn : (a : Action S R) → f s (get_or xs i 0) ≡ a → scan f s (drop i xs) m ≡ scan_on a (λ t n. scan f t (drop (i + 1) xs) n) m
    unfolding scan
    turn a e = simp (add-one, drop-cons xs i 0 h) (ap (λ (a : Action S R). scan_on a (λ t n. scan f t (drop (suc i) xs) n) m) e)

    pub scan_advance : (t : S) → f s (get_or xs i 0) ≡ advance t → after i (scan f s (drop i xs) m) ≡ after (i + 1) (scan f t (drop (i + 1) xs) m)
    unfolding scan_on
    scan_advance t e = ap (after i) (turn (advance t) e) ∙ after_after i 1 _

    pub scan_store : (t : S) (j v : ℕ) → f s (get_or xs i 0) ≡ store t j v → after i (scan f s (drop i xs) m) ≡ after (i + 1) (scan f t (drop (i + 1) xs) (set m j v))
    unfolding scan_on
    scan_store t j v e = ap (after i) (turn (store t j v) e) ∙ after_after i 1 _

    pub scan_emit : (r : R) (t : S) → f s (get_or xs i 0) ≡ emit r t → after i (scan f s (drop i xs) m) ≡ record { report = some r; taken = i + 1; state = t; buffer = m }
    unfolding scan_on after
    scan_emit r t e = ap (after i) (turn (emit r t) e)

-- bounds of the octets taken: at least one where there is one, and no more than there are
module _ {S R : Type 0} where
  pub scan_on-takes : (a : Action S R) (k : S → List ℕ → Scan S R) (m : List ℕ) → 0 < (scan_on a k m).taken
  unfolding scan_on after
  scan_on-takes (advance t) k m = omega arith
  scan_on-takes (store t i x) k m = omega arith
  scan_on-takes (emit r t) k m = omega arith

module _ {S R : Type 0} (f : S → ℕ → Action S R) where
  scan_on-taken : (a : Action S R) (k : S → List ℕ → Scan S R) (m : List ℕ) (n : ℕ) → ((t : S) (j : List ℕ) → (k t j).taken ≤ n) → (scan_on a k m).taken ≤ suc n
  unfolding scan_on after
  scan_on-taken (advance t) k m n h = omega (arith, h t m)
  scan_on-taken (store t i x) k m n h = omega (arith, h t (set m i x))
  scan_on-taken (emit r t) k m n h = omega arith

  pub scan_taken : (xs : List ℕ) (s : S) (m : List ℕ) → (scan f s xs m).taken ≤ length xs
  unfolding scan
  scan_taken [] s m = omega arith
  scan_taken (x ∷ xs) s m = scan_on-taken (f s x) (λ t n. scan f t xs n) m (length xs) (λ t n. scan_taken xs t n)

  -- a report takes an octet
  pub scan_report_takes : (xs : List ℕ) (s : S) (m : List ℕ) (r : R) → (scan f s xs m).report ≡ some r → 0 < (scan f s xs m).taken
  unfolding scan
  scan_report_takes [] s m r e = let z : ◌≡◌ {A = ℕ} 0 1 = cc in omega arith
  scan_report_takes (x ∷ xs) s m r e = scan_on-takes (f s x) (λ t n. scan f t xs n) m

-- the buffer decides nothing: calls that differ in it report, take and go on alike
module _ {S R : Type 0} where
  -- a call, its buffer set aside
  unfoldable pub apart : Scan S R → Scan S R
  apart u = record { report = u.report; taken = u.taken; state = u.state; buffer = [] }

  scan_on-apart : (a : Action S R) (k : S → List ℕ → Scan S R) (m n : List ℕ) → ((t : S) (i j : List ℕ) → apart (k t i) ≡ apart (k t j)) → apart (scan_on a k m) ≡ apart (scan_on a k n)
  unfolding scan_on after apart
  scan_on-apart (advance t) k m n e = ap (after 1) (e t m n)
  scan_on-apart (store t i x) k m n e = ap (after 1) (e t (set m i x) (set n i x))
  scan_on-apart (emit r t) k m n e = refl

  pub scan_apart : (f : S → ℕ → Action S R) (xs : List ℕ) (s : S) (m n : List ℕ) → apart (scan f s xs m) ≡ apart (scan f s xs n)
  unfolding scan apart
  scan_apart f [] s m n = refl
  scan_apart f (x ∷ xs) s m n = scan_on-apart (f s x) (λ t n. scan f t xs n) m n (λ t i j. scan_apart f xs t i j)

-- what holds of every report that one octet can make, and of the state behind it, holds of a call's report and state
module _ {S R : Type 0} (f : S → ℕ → Action S R) (Ok : R → S → Type 0) (makes : (s : S) (x : ℕ) (r : R) (t : S) → f s x ≡ emit r t → Ok r t) where
  report_on : (a : Action S R) (s : S) (x : ℕ) (xs m : List ℕ) (r : R) → f s x ≡ a → ((t : S) (n : List ℕ) → (scan f t xs n).report ≡ some r → Ok r (scan f t xs n).state)
      → (scan_on a (λ t n. scan f t xs n) m).report ≡ some r → Ok r (scan_on a (λ t n. scan f t xs n) m).state
  unfolding scan_on after
  report_on (advance t) s x xs m r e ih h = ih t m h
  report_on (store t i y) s x xs m r e ih h = ih t (set m i y) h
  report_on (emit q t) s x xs m r e ih h = let z : q ≡ r = cc in subst (λ (r : R). Ok r t) z (makes s x q t e)

  pub scan_report : (xs : List ℕ) (s : S) (m : List ℕ) (r : R) → (scan f s xs m).report ≡ some r → Ok r (scan f s xs m).state
  unfolding scan
  scan_report [] s m r h = let z : ◌≡◌ {A = ℕ} 0 1 = cc in let y : ⊥ = omega arith in absurd y
  scan_report (x ∷ xs) s m r h = report_on (f s x) s x xs m r refl (λ t n k. scan_report xs t n r k) h
