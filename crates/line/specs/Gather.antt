-- A caller that makes something of each report (lines of text, counts), and goes on within a chunk as long as it wants more.
-- For any reader that goes octet by octet. Assumes nothing.
--
--   gather f make more s xs m c   what comes of the chunk xs, from the state s, with the buffer m, where c was made so far
--   make_all make c es             what is made of a list of reports
use Rattle.std.specs.Prelude.{ℕ, ◌+◌, Bool, cond, set}
use mathlib.Core.List.{List, [], ◌∷◌}
use Rattle.line.specs.Scan.{Action, advance, store, emit}
use Rattle.line.specs.Trace.{Event}

-- the octets taken; the later state and buffer; what was made
pub record Gathered (S C : Type 0) : Type 0 where
  pub taken : ℕ
  pub state : S
  pub buffer : List ℕ
  pub made : C

module _ {S C : Type 0} where
  -- nothing more is taken
  unfoldable pub stop : S → List ℕ → C → Gathered S C
  stop s m c = record { taken = 0; state = s; buffer = m; made = c }

  -- n octets were taken before
  unfoldable pub later : ℕ → Gathered S C → Gathered S C
  later n g = record { taken = n + g.taken; state = g.state; buffer = g.buffer; made = g.made }

module _ {S R C : Type 0} (make : C → R → List ℕ → C) (more : C → Bool) where
  -- one octet's action, and then the rest of the chunk, k; after a report only where more is wanted
  unfoldable pub gather_on : Action S R → (S → List ℕ → C → Gathered S C) → List ℕ → C → Gathered S C
  gather_on (advance s) k m c = later 1 (k s m c)
  gather_on (store s i x) k m c = later 1 (k s (set m i x) c)
  gather_on (emit r s) k m c = let d = make c r m in later 1 (cond (more d) (k s m d) (stop s m d))

  -- the octets of the chunk, where more is wanted
  unfoldable pub gather_all : (S → ℕ → Action S R) → S → List ℕ → List ℕ → C → Gathered S C
  unfolding gather_on
  gather_all f s [] m c = stop s m c
  gather_all f s (x ∷ xs) m c = gather_on (f s x) (λ t n d. gather_all f t xs n d) m c

  unfoldable pub gather : (S → ℕ → Action S R) → S → List ℕ → List ℕ → C → Gathered S C
  gather f s xs m c = cond (more c) (gather_all f s xs m c) (stop s m c)

-- report after report
unfoldable pub make_all : {R C : Type 0} → (C → R → List ℕ → C) → C → List (Event R) → C
make_all make c [] = c
make_all make c (e ∷ es) = make_all make (make c e.report e.buffer) es
