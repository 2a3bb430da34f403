-- Laws of `trace`: reading on, and a first call and then the rest. Assumes nothing.
use Prim.Native.Nat.{ℕ, suc, ◌≤◌}
use mathlib.Core.List.{List, [], ◌∷◌, ◌++◌}
use mathlib.Core.Path.{◌≡◌, refl, sym, ap, ◌∙◌}
use native.Mathlib.Numerals.{one-add}
use native.Mathlib.Omega.{arith}
use lib.ListN.{length, drop, set}
use Rattle.line.specs.Scan.{Action, advance, store, emit, Scan, after, scan_on, scan}
use Rattle.line.specs.Trace.{Trace, no_event, one_event, trace_on, trace, and_then, reported}

module _ {S R : Type 0} where
  -- what a caller gets who has the first call's outcome u, and k for the rest of the chunk xs
  abbrev pub onwards : List ℕ → (S → List ℕ → List ℕ → Trace S R) → Scan S R → Trace S R
  onwards xs k u = reported u.report u.state u.buffer (k u.state (drop u.taken xs) u.buffer)

  onwards_after : (x : ℕ) (xs : List ℕ) (k : S → List ℕ → List ℕ → Trace S R) (u : Scan S R) → onwards (x ∷ xs) k (after 1 u) ≡ onwards xs k u
  unfolding after
  onwards_after x xs k u = rw one-add

  trace_on-and_then : (a : Action S R) (m : List ℕ) (k j h : S → List ℕ → Trace S R) → ((t : S) (n : List ℕ) → k t n ≡ and_then (j t n) h) → trace_on a k m ≡ and_then (trace_on a j m) h
  unfolding trace_on and_then one_event
  trace_on-and_then (advance t) m k j h e = e t m
  trace_on-and_then (store t i x) m k j h e = e t (set m i x)
  trace_on-and_then (emit r t) m k j h e = ap (one_event r m) (e t m)

module _ {S R : Type 0} (f : S → ℕ → Action S R) where
  -- reading on
  pub trace-++ : (xs ys : List ℕ) (s : S) (m : List ℕ) → trace f s (xs ++ ys) m ≡ and_then (trace f s xs m) (λ t n. trace f t ys n)
  unfolding trace and_then no_event
  trace-++ [] ys s m = refl
  trace-++ (x ∷ xs) ys s m = trace_on-and_then (f s x) m (λ t n. trace f t (xs ++ ys) n) (λ t n. trace f t xs n) (λ t n. trace f t ys n) (λ t n. trace-++ xs ys t n)

  -- a line's reports are those of a first call and then those of the rest
  trace_on-scan : (a : Action S R) (x : ℕ) (xs m : List ℕ)
      → ((t : S) (n : List ℕ) → trace f t xs n ≡ onwards xs (trace f) (scan f t xs n))
      → trace_on a (λ t n. trace f t xs n) m ≡ onwards (x ∷ xs) (trace f) (scan_on a (λ t n. scan f t xs n) m)
  unfolding trace_on scan_on
  trace_on-scan (advance t) x xs m e = e t m ∙ sym (onwards_after x xs (trace f) (scan f t xs m))
  trace_on-scan (store t i y) x xs m e = e t (set m i y) ∙ sym (onwards_after x xs (trace f) (scan f t xs (set m i y)))
  trace_on-scan (emit r t) x xs m e = refl

  pub trace_scan : (xs : List ℕ) (s : S) (m : List ℕ) → trace f s xs m ≡ onwards xs (trace f) (scan f s xs m)
  unfolding trace scan
  trace_scan [] s m = refl
  trace_scan (x ∷ xs) s m = trace_on-scan (f s x) x xs m (λ t n. trace_scan xs t n)

  -- no more reports than octets
  events_on : (a : Action S R) (xs m : List ℕ) → ((t : S) (n : List ℕ) → length (trace f t xs n).events ≤ length xs) → length (trace_on a (λ t n. trace f t xs n) m).events ≤ suc (length xs)
  unfolding trace_on one_event
  events_on (advance t) xs m h = omega (arith, h t m)
  events_on (store t i y) xs m h = omega (arith, h t (set m i y))
  events_on (emit r t) xs m h = omega (arith, h t m)

  pub trace_events : (xs : List ℕ) (s : S) (m : List ℕ) → length (trace f s xs m).events ≤ length xs
  unfolding trace no_event
  trace_events [] s m = omega arith
  trace_events (x ∷ xs) s m = events_on (f s x) xs m (λ t n. trace_events xs t n)
