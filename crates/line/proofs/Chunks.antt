-- The cutting law: however a line is cut into chunks, a caller gets the reports, the state and the buffer of the whole line.
-- For any rule for one octet, and any call that answers as `scan` does on good states and buffers. Assumes nothing.
use Prim.Native.Nat.{ℕ, zero, suc, ◌<◌}
use mathlib.Core.List.{List, [], ◌∷◌, ◌++◌, flatten}
use mathlib.Core.Option.{Option, none, some}
use mathlib.Core.Path.{◌≡◌, refl, sym, ap, ◌∙◌}
use native.Mathlib.Omega.{arith}
use lib.ListN.{length, drop, set, length-drop}
use Rattle.common.proofs.Each.{Each, each_all}
use Rattle.line.proofs.Scan.{scan_taken, scan_report_takes}
use Rattle.line.proofs.Trace.{trace-++, trace_scan}
use Rattle.line.specs.Scan.{Action, advance, store, emit, Scan, after, scan_on, scan}
use Rattle.line.specs.Trace.{Trace, no_event, one_event, trace_on, trace, and_then, reported, read_chunk, read_chunks}

module _ {S R : Type 0} where
  reported_same : (o : Option R) (s : S) (m : List ℕ) (a b : Trace S R) → ((r : R) → o ≡ some r → a ≡ b) → reported o s m a ≡ reported o s m b
  reported_same none s m a b e = refl
  reported_same (some r) s m a b e = ap (one_event r m) (e r refl)

  and_then_same : (a : Trace S R) (j k : S → List ℕ → Trace S R) → j a.state a.buffer ≡ k a.state a.buffer → and_then a j ≡ and_then a k
  unfolding and_then
  and_then_same a j k e = ap (λ (b : Trace S R). record { events = a.events ++ b.events; state = b.state; buffer = b.buffer }) e

module _ {S R : Type 0} (f : S → ℕ → Action S R) where
  -- a call that reports leaves less of the chunk
  rest_shorter : (xs : List ℕ) (s : S) (m : List ℕ) (r : R) (n : ℕ) → (scan f s xs m).report ≡ some r → length xs < suc n → length (drop (scan f s xs m).taken xs) < n
  rest_shorter xs s m r n e h = simp length-drop (omega (arith, scan_report_takes f xs s m r e, scan_taken f xs s m))

  module _ (Good : S → List ℕ → Type 0) where
    -- what is good before an action is good after it
    abbrev pub Keeps : Action S R → List ℕ → Type 0
    Keeps (advance t) m = Good t m
    Keeps (store t i x) m = Good t (set m i x)
    Keeps (emit r t) m = Good t m

    scan_on-good : (a : Action S R) (xs m : List ℕ) → Keeps a m → ((t : S) (n : List ℕ) → Good t n → Good (scan f t xs n).state (scan f t xs n).buffer)
        → Good (scan_on a (λ t n. scan f t xs n) m).state (scan_on a (λ t n. scan f t xs n) m).buffer
    unfolding scan_on after
    scan_on-good (advance t) xs m ok e = e t m ok
    scan_on-good (store t i x) xs m ok e = e t (set m i x) ok
    scan_on-good (emit r t) xs m ok e = ok

    -- a good state and buffer stay good on a chunk of octets Q, where each of these keeps them so
    pub scan_good_of : (Q : ℕ → Type 0) → ((s : S) (x : ℕ) (m : List ℕ) → Q x → Good s m → Keeps (f s x) m)
        → (xs : List ℕ) → Each Q xs → (s : S) (m : List ℕ) → Good s m → Good (scan f s xs m).state (scan f s xs m).buffer
    unfolding scan
    scan_good_of Q keeps [] q s m ok = ok
    scan_good_of Q keeps (x ∷ xs) q s m ok = scan_on-good (f s x) xs m (keeps s x m q.0 ok) (λ t n h. scan_good_of Q keeps xs q.1 t n h)

    module _ (keeps : (s : S) (x : ℕ) (m : List ℕ) → Good s m → Keeps (f s x) m) where
      -- whatever the chunk
      pub scan_good : (xs : List ℕ) (s : S) (m : List ℕ) → Good s m → Good (scan f s xs m).state (scan f s xs m).buffer
      scan_good xs = scan_good_of (λ _. Unit {0}) (λ s x m _ h. keeps s x m h) xs (each_all (λ _. Unit {0}) (λ _. tt) xs)

      trace_on-good : (a : Action S R) (xs m : List ℕ) → Keeps a m → ((t : S) (n : List ℕ) → Good t n → Good (trace f t xs n).state (trace f t xs n).buffer)
          → Good (trace_on a (λ t n. trace f t xs n) m).state (trace_on a (λ t n. trace f t xs n) m).buffer
      unfolding trace_on one_event
      trace_on-good (advance t) xs m ok e = e t m ok
      trace_on-good (store t i x) xs m ok e = e t (set m i x) ok
      trace_on-good (emit r t) xs m ok e = e t m ok

      pub trace_good : (xs : List ℕ) (s : S) (m : List ℕ) → Good s m → Good (trace f s xs m).state (trace f s xs m).buffer
      unfolding trace no_event
      trace_good [] s m ok = ok
      trace_good (x ∷ xs) s m ok = trace_on-good (f s x) xs m (keeps s x m ok) (λ t n h. trace_good xs t n h)

      module _ (g : S → List ℕ → List ℕ → Scan S R) (agrees : (s : S) (xs m : List ℕ) → Good s m → g s xs m ≡ scan f s xs m) where
        read_chunk-trace : (n : ℕ) (s : S) (xs m : List ℕ) → Good s m → length xs < n → read_chunk g n s xs m ≡ trace f s xs m
        unfolding read_chunk
        read_chunk-trace zero s xs m ok h = let z : ⊥ = omega arith in absurd z
        read_chunk-trace (suc n) s xs m ok h =
            rw (agrees s xs m ok)
            (reported_same (scan f s xs m).report (scan f s xs m).state (scan f s xs m).buffer _ _
            (λ r e. read_chunk-trace n _ _ _ (scan_good xs s m ok) (rest_shorter xs s m r n e h))
            ∙ sym (trace_scan f xs s m))

        -- every cutting gives what the whole line gives
        pub read_chunks-trace : (xss : List (List ℕ)) (s : S) (m : List ℕ) → Good s m → read_chunks g s xss m ≡ trace f s (flatten xss) m
        unfolding read_chunks trace flatten
        read_chunks-trace [] s m ok = refl
        read_chunks-trace (xs ∷ xss) s m ok =
            rw (read_chunk-trace (suc (length xs)) s xs m ok (omega arith))
            (and_then_same (trace f s xs m) (λ t n. read_chunks g t xss n) (λ t n. trace f t (flatten xss) n) (read_chunks-trace xss _ _ (trace_good xs s m ok))
            ∙ sym (trace-++ f xs (flatten xss) s m))

        -- every two cuttings of one line give the same reports, state and buffer
        pub cuttings-agree : (xss yss : List (List ℕ)) (s : S) (m : List ℕ) → Good s m → flatten xss ≡ flatten yss → read_chunks g s xss m ≡ read_chunks g s yss m
        cuttings-agree xss yss s m ok e =
            read_chunks-trace xss s m ok ∙ ap (λ (l : List ℕ). trace f s l m) e ∙ sym (read_chunks-trace yss s m ok)

-- a call that does nothing, whatever the chunk: the caller gets nothing, however the line is cut
module _ {S R : Type 0} (g : S → List ℕ → List ℕ → Scan S R) (s : S) (m : List ℕ)
    (idle : (xs : List ℕ) → g s xs m ≡ record { report = none; taken = 0; state = s; buffer = m }) where
  read_chunk-idle : (n : ℕ) (xs : List ℕ) → read_chunk g n s xs m ≡ no_event s m
  unfolding read_chunk
  read_chunk-idle zero xs = refl
  read_chunk-idle (suc n) xs = rw (idle xs)

  pub read_chunks-idle : (xss : List (List ℕ)) → read_chunks g s xss m ≡ no_event s m
  unfolding read_chunks and_then no_event
  read_chunks-idle [] = refl
  read_chunks-idle (xs ∷ xss) = rw (read_chunk-idle (suc (length xs)) xs) (read_chunks-idle xss)
