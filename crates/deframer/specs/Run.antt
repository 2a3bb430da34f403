-- What the shared loop does with a run of octets that stand for themselves. Cited by the contracts of the functions that take a run as a whole; that it is
-- framing's run is a law (proofs/Checks). Assumes nothing.
use Rattle.std.specs.Prelude.{ℕ, suc, ◌+◌, List, [], ◌∷◌, length}
use Rattle.deframer.specs.Rule.{added}
use Rattle.deframer.specs.declared.Rule.{Rule}
use Rattle.deframer.specs.declared.State.{State}

-- the running check a of n octets after the octets xs
unfoldable pub added_all : (kind n a : ℕ) → List ℕ → ℕ
added_all kind n a [] = a
added_all kind n a (x ∷ xs) = added_all kind (suc n) (added kind n a x) xs

-- the state after the run xs
unfoldable pub with_run : Rule → State → (xs : List ℕ) → State
with_run r s [] = s
with_run r s (x ∷ xs) = record {
  synced = s.synced;
  pending = s.pending;
  bad = s.bad;
  count = s.count + length (x ∷ xs);
  check = added_all r.check s.count s.check (x ∷ xs);
}
