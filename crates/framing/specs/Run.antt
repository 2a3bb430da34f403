-- Framing: a run of octets that stand for themselves in a segment. Cited by readers that take a run as a whole; that it does what octet by octet
-- does is a law (proofs/Runs). Assumes nothing.
use Rattle.std.specs.Prelude.{ℕ, ◌+◌, ◌≤◌, Bool, true, false, ◌||◌, List, [], ◌∷◌, ◌≡◌, eqb, length}
use Rattle.common.specs.Plain.{plain}
use Rattle.framing.specs.Reports.{check_from}
use Rattle.framing.specs.Rules.{Rules, State}

module _ {A R : Type 0} (rules : Rules A R) where
  -- an octet that does not stand for itself: a flag, an escape, or one that is skipped
  abbrev pub is_special : (x : ℕ) → Bool
  is_special x = eqb x rules.flag || (eqb x rules.escape || rules.skips x)

  -- the octets xs come in a segment, behind no escape, and all of them are stored as they are
  abbrev pub Run : State A → (xs : List ℕ) → Type 0
  Run s xs = (s.synced ≡ true) × (s.pending ≡ false) × (s.count + length xs ≤ rules.cap) × (plain is_special xs ≡ true)

  -- the state after the run xs
  unfoldable pub with_run : State A → (xs : List ℕ) → State A
  with_run s [] = s
  with_run s (x ∷ xs) = record {
    synced = s.synced;
    pending = s.pending;
    bad = s.bad;
    count = s.count + length (x ∷ xs);
    check = check_from rules s.count s.check (x ∷ xs);
  }
