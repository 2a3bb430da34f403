-- A whole line: all its reports, and the reports that a caller gets who hands the line over in chunks. Assumes nothing.
--
--   trace f s xs m        every report of the line xs, from the state s, with the buffer m
--   read_chunks g s xss m  every report of a caller of g, chunk after chunk
use Rattle.std.specs.Prelude.{ℕ, zero, suc, length, drop, set}
use mathlib.Core.List.{List, [], ◌∷◌, ◌++◌}
use Rattle.std.proofs.Math.Option.{Option, none, some}
use Rattle.line.specs.Scan.{Action, advance, store, emit, Scan}

-- a report, with the buffer as it was when the report was made
pub record Event (R : Type 0) : Type 0 where
  pub report : R
  pub buffer : List ℕ

-- the reports in order, and the state and the buffer after them
pub record Trace (S R : Type 0) : Type 0 where
  pub events : List (Event R)
  pub state : S
  pub buffer : List ℕ

module _ {S R : Type 0} where
  -- no report
  unfoldable pub no_event : S → List ℕ → Trace S R
  no_event s m = record { events = []; state = s; buffer = m }

  -- a report r before the others
  unfoldable pub one_event : R → List ℕ → Trace S R → Trace S R
  one_event r m a = record { events = record { report = r; buffer = m } ∷ a.events; state = a.state; buffer = a.buffer }

  -- one octet's action on the buffer m, and then the rest of the line, k
  unfoldable pub trace_on : Action S R → (S → List ℕ → Trace S R) → List ℕ → Trace S R
  trace_on (advance s) k m = k s m
  trace_on (store s i x) k m = k s (set m i x)
  trace_on (emit r s) k m = one_event r m (k s m)

  -- every report of a line
  unfoldable pub trace : (S → ℕ → Action S R) → S → List ℕ → List ℕ → Trace S R
  unfolding trace_on
  trace f s [] m = no_event s m
  trace f s (x ∷ xs) m = trace_on (f s x) (λ t n. trace f t xs n) m

  -- one trace and then another, which goes on from its state and buffer
  unfoldable pub and_then : Trace S R → (S → List ℕ → Trace S R) → Trace S R
  and_then a k = let b = k a.state a.buffer in record { events = a.events ++ b.events; state = b.state; buffer = b.buffer }

  -- a call's report, if it made one, and then a, the calls on the rest of the chunk; without a report there is no rest
  abbrev pub reported : Option R → S → List ℕ → Trace S R → Trace S R
  reported none s m a = no_event s m
  reported (some r) s m a = one_event r m a

  -- a caller of g who after each report hands on the rest of the chunk; n bounds the number of calls
  unfoldable pub read_chunk : (S → List ℕ → List ℕ → Scan S R) → ℕ → S → List ℕ → List ℕ → Trace S R
  read_chunk g zero s xs m = no_event s m
  read_chunk g (suc n) s xs m =
      let u = g s xs m in
      let a = read_chunk g n u.state (drop u.taken xs) u.buffer in
      reported u.report u.state u.buffer a

  -- a caller of g who hands over chunk after chunk; a chunk of n octets takes at most n + 1 calls
  unfoldable pub read_chunks : (S → List ℕ → List ℕ → Scan S R) → S → List (List ℕ) → List ℕ → Trace S R
  unfolding and_then
  read_chunks g s [] m = no_event s m
  read_chunks g s (xs ∷ xss) m = and_then (read_chunk g (suc (length xs)) s xs m) (λ t n. read_chunks g t xss n)
