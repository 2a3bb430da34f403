-- Simulation: a reader whose step commutes with the step of another reads every line as that one does. Assumes nothing.
--
-- h takes the states of a reader g to those of a reader f, and j its reports. For a reader with a level, h is the placing of a state at that level,
-- and each of the reader's states is a placed one by its fields.
use Prim.Native.Nat.{ℕ, zero, suc}
use mathlib.Core.List.{List, [], ◌∷◌, ◌++◌, flatten}
use mathlib.Core.Option.{Option, none, some}
use mathlib.Core.Path.{◌≡◌, refl, sym, ap, ◌∙◌, subst}
use lib.ListN.{length, drop, set}
use Rattle.line.proofs.Chunks.{Keeps, read_chunks-trace}
use Rattle.line.specs.Scan.{Action, advance, store, emit, Scan, after, scan_on, scan}
use Rattle.line.specs.Trace.{Trace, no_event, one_event, trace_on, trace, and_then, reported, read_chunk, read_chunks}
use Rattle.line.specs.Simulation.{map_action, map_scan, place_action, place_scan, place_trace, retell_trace}

-- ---- a call: states taken by h, and reports by j
module _ {S T R Q : Type 0} (h : S → T) (j : R → Q) (g : S → ℕ → Action S R) (f : T → ℕ → Action T Q) (commutes : (s : S) (x : ℕ) → f (h s) x ≡ map_action h j (g s x)) where
  scan_on-simulates : (a : Action S R) (xs m : List ℕ) → ((s : S) (n : List ℕ) → scan f (h s) xs n ≡ map_scan h j (scan g s xs n))
      → scan_on (map_action h j a) (λ t n. scan f t xs n) m ≡ map_scan h j (scan_on a (λ s n. scan g s xs n) m)
  unfolding scan_on after
  scan_on-simulates (advance s) xs m e = ap (after 1) (e s m)
  scan_on-simulates (store s i x) xs m e = ap (after 1) (e s (set m i x))
  scan_on-simulates (emit r s) xs m e = refl

  pub scan_simulates : (xs : List ℕ) (s : S) (m : List ℕ) → scan f (h s) xs m ≡ map_scan h j (scan g s xs m)
  unfolding scan
  scan_simulates [] s m = refl
  scan_simulates (x ∷ xs) s m =
      ap (λ (a : Action T Q). scan_on a (λ t n. scan f t xs n) m) (commutes s x) ∙ scan_on-simulates (g s x) xs m (λ t n. scan_simulates xs t n)

-- ---- a whole line: states alone
module _ {S T R : Type 0} (h : S → T) (g : S → ℕ → Action S R) (f : T → ℕ → Action T R) (commutes : (s : S) (x : ℕ) → f (h s) x ≡ place_action h (g s x)) where
  trace_on-simulates : (a : Action S R) (xs m : List ℕ) → ((s : S) (n : List ℕ) → trace f (h s) xs n ≡ place_trace h (trace g s xs n))
      → trace_on (place_action h a) (λ t n. trace f t xs n) m ≡ place_trace h (trace_on a (λ s n. trace g s xs n) m)
  unfolding trace_on one_event
  trace_on-simulates (advance s) xs m e = e s m
  trace_on-simulates (store s i x) xs m e = e s (set m i x)
  trace_on-simulates (emit r s) xs m e = ap (one_event r m) (e s m)

  -- a whole line
  pub trace_simulates : (xs : List ℕ) (s : S) (m : List ℕ) → trace f (h s) xs m ≡ place_trace h (trace g s xs m)
  unfolding trace no_event
  trace_simulates [] s m = refl
  trace_simulates (x ∷ xs) s m =
      ap (λ (a : Action T R). trace_on a (λ t n. trace f t xs n) m) (commutes s x) ∙ trace_on-simulates (g s x) xs m (λ t n. trace_simulates xs t n)

  -- calls that answer as the scan of f does where the other reader's state and the buffer are good
  module _ (Good : S → List ℕ → Type 0) (keeps : (s : S) (x : ℕ) (m : List ℕ) → Good s m → Keeps g Good (g s x) m)
      (call : T → List ℕ → List ℕ → Scan T R) (agrees : (s : S) (xs m : List ℕ) → Good s m → call (h s) xs m ≡ scan f (h s) xs m) where
    -- good at some state taken there
    abbrev Placed : T → List ℕ → Type 0
    Placed t m = (s : S) × (h s ≡ t) × Good s m

    placed_keeps : (a : Action S R) (m : List ℕ) → Keeps g Good a m → Keeps f Placed (place_action h a) m
    placed_keeps (advance s) m k = (s, refl, k)
    placed_keeps (store s i x) m k = (s, refl, k)
    placed_keeps (emit r s) m k = (s, refl, k)

    step_keeps : (t : T) (x : ℕ) (m : List ℕ) → Placed t m → Keeps f Placed (f t x) m
    step_keeps t x m p =
        subst (λ (t : T). Keeps f Placed (f t x) m) p.1
        (subst (λ (a : Action T R). Keeps f Placed a m) (sym (commutes p.0 x)) (placed_keeps (g p.0 x) m (keeps p.0 x m p.2)))

    call_scan : (t : T) (xs m : List ℕ) → Placed t m → call t xs m ≡ scan f t xs m
    call_scan t xs m p = subst (λ (t : T). call t xs m ≡ scan f t xs m) p.1 (agrees p.0 xs m p.2)

    -- a caller, however the line is cut, gets what the other reader makes of the whole line
    pub read_chunks-simulates : (xss : List (List ℕ)) (s : S) (m : List ℕ) → Good s m → read_chunks call (h s) xss m ≡ place_trace h (trace g s (flatten xss) m)
    read_chunks-simulates xss s m k =
        read_chunks-trace f Placed step_keeps call call_scan xss (h s) m (s, refl, k) ∙ trace_simulates (flatten xss) s m

-- ---- what is good at a state is good where the state is taken: an octet that keeps it there keeps it here
module _ {S T R : Type 0} (h : S → T) (g : S → ℕ → Action S R) (f : T → ℕ → Action T R) (commutes : (s : S) (x : ℕ) → f (h s) x ≡ place_action h (g s x))
    (Good : S → List ℕ → Type 0) (Well : T → List ℕ → Type 0) (well : (s : S) (m : List ℕ) → Good s m → Well (h s) m) where
  taken_keeps : (a : Action S R) (m : List ℕ) → Keeps g Good a m → Keeps f Well (place_action h a) m
  taken_keeps (advance s) m k = well s m k
  taken_keeps (store s i x) m k = well s _ k
  taken_keeps (emit r s) m k = well s m k

  pub octet_keeps : (s : S) (x : ℕ) (m : List ℕ) → Keeps g Good (g s x) m → Keeps f Well (f (h s) x) m
  octet_keeps s x m k = subst (λ (a : Action T R). Keeps f Well a m) (sym (commutes s x)) (taken_keeps (g s x) m k)

-- ---- a whole line: reports alone
module _ {S R Q : Type 0} (j : R → Q) (g : S → ℕ → Action S R) (f : S → ℕ → Action S Q) (commutes : (s : S) (x : ℕ) → f s x ≡ map_action (λ s. s) j (g s x)) where
  trace_on-retells : (a : Action S R) (xs m : List ℕ) → ((s : S) (n : List ℕ) → trace f s xs n ≡ retell_trace j (trace g s xs n))
      → trace_on (map_action (λ s. s) j a) (λ t n. trace f t xs n) m ≡ retell_trace j (trace_on a (λ s n. trace g s xs n) m)
  unfolding trace_on one_event
  trace_on-retells (advance s) xs m e = e s m
  trace_on-retells (store s i x) xs m e = e s (set m i x)
  trace_on-retells (emit r s) xs m e = ap (one_event (j r) m) (e s m)

  pub trace_retells : (xs : List ℕ) (s : S) (m : List ℕ) → trace f s xs m ≡ retell_trace j (trace g s xs m)
  unfolding trace no_event
  trace_retells [] s m = refl
  trace_retells (x ∷ xs) s m =
      ap (λ (a : Action S Q). trace_on a (λ t n. trace f t xs n) m) (commutes s x) ∙ trace_on-retells (g s x) xs m (λ t n. trace_retells xs t n)

-- ---- two callers whose states are related by a function, and whose calls keep it so
module _ {S T R : Type 0} (h : S → T) where
  reported_maps : (o : Option R) (s : S) (m : List ℕ) (a : Trace S R) → reported o (h s) m (place_trace h a) ≡ place_trace h (reported o s m a)
  unfolding no_event one_event
  reported_maps none s m a = refl
  reported_maps (some r) s m a = refl

  module _ (f : S → List ℕ → List ℕ → Scan S R) (g : T → List ℕ → List ℕ → Scan T R)
      (e : (s : S) (xs m : List ℕ) → g (h s) xs m ≡ place_scan h (f s xs m)) where
    read_chunk-maps : (n : ℕ) (s : S) (xs m : List ℕ) → read_chunk g n (h s) xs m ≡ place_trace h (read_chunk f n s xs m)
    unfolding read_chunk no_event
    read_chunk-maps zero s xs m = refl
    read_chunk-maps (suc n) s xs m =
        let u = f s xs m in
        let rest = drop u.taken xs in
        ap (λ (v : Scan T R). reported v.report v.state v.buffer (read_chunk g n v.state (drop v.taken xs) v.buffer)) (e s xs m)
        ∙ ap (λ (a : Trace T R). reported u.report (h u.state) u.buffer a) (read_chunk-maps n u.state rest u.buffer)
        ∙ reported_maps u.report u.state u.buffer (read_chunk f n u.state rest u.buffer)

    pub read_chunks-maps : (xss : List (List ℕ)) (s : S) (m : List ℕ) → read_chunks g (h s) xss m ≡ place_trace h (read_chunks f s xss m)
    unfolding read_chunks and_then no_event
    read_chunks-maps [] s m = refl
    read_chunks-maps (xs ∷ xss) s m =
        let a = read_chunk f (suc (length xs)) s xs m in
        ap (λ (b : Trace T R). and_then b (λ t n. read_chunks g t xss n)) (read_chunk-maps (suc (length xs)) s xs m)
        ∙ ap (λ (b : Trace T R). record { events = a.events ++ b.events; state = b.state; buffer = b.buffer }) (read_chunks-maps xss a.state a.buffer)
