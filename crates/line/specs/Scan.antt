-- One call of a reader that goes octet by octet: what a chunk (the paper's "portion") does up to its first report.
-- For any state S, report R and rule for one octet. Assumes nothing.
--
--   Action          what one octet does
--   scan f s xs m   what a call on the chunk xs does, from the state s, with the buffer m
use Rattle.std.specs.Prelude.{ℕ, ◌+◌, set}
use mathlib.Core.List.{List, [], ◌∷◌}
use Rattle.std.proofs.Math.Option.{Option, none, some}

-- what one octet does: it changes the state alone; it stores an octet at an index of the buffer; it makes a report
pub data Action (S R : Type 0) : Type 0 where
  advance : S → Action S R
  store : S → ℕ → ℕ → Action S R
  emit : R → S → Action S R

-- what a call does: the report, none where the chunk was used up without one; the octets taken; the later state and buffer
pub record Scan (S R : Type 0) : Type 0 where
  pub report : Option R
  pub taken : ℕ
  pub state : S
  pub buffer : List ℕ

module _ {S R : Type 0} where
  -- a call that had taken n octets before
  unfoldable pub after : ℕ → Scan S R → Scan S R
  after n u = record { report = u.report; taken = n + u.taken; state = u.state; buffer = u.buffer }

  -- one octet's action on the buffer m, and then the rest of the chunk, k
  unfoldable pub scan_on : Action S R → (S → List ℕ → Scan S R) → List ℕ → Scan S R
  unfolding after
  scan_on (advance s) k m = after 1 (k s m)
  scan_on (store s i x) k m = after 1 (k s (set m i x))
  scan_on (emit r s) k m = record { report = some r; taken = 1; state = s; buffer = m }

  -- the chunk's octets up to and with the one that makes the first report
  unfoldable pub scan : (S → ℕ → Action S R) → S → List ℕ → List ℕ → Scan S R
  unfolding scan_on
  scan f s [] m = record { report = none; taken = 0; state = s; buffer = m }
  scan f s (x ∷ xs) m = scan_on (f s x) (λ t n. scan f t xs n) m
