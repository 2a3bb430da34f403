-- The reader's cases: each refusal, and a call that is not refused. Assumes nothing.
use Prim.Native.Nat.{ℕ, ◌≤◌, ◌<◌}
use mathlib.Core.Bool.{true, false}
use mathlib.Core.List.{List}
use mathlib.Core.Path.{◌≡◌}
use borrow.Author.Tests.{lt-ltb, le-ltb, ltb-false}
use lib.Dec.{ltb}
use lib.ListN.{length}
use Rattle.common.proofs.Bools.{either}
use Rattle.qaft.specs.Answers.{buffer_too_small, bad_state}
use Rattle.kiss.specs.Limits.{max_segment}
use Rattle.kiss_read.specs.Read.{Call, scan_call, refusal, refusals, read}
use Rattle.kiss_read.specs.State.{malformed}
use Rattle.kiss_read.specs.declared.Reader.{Reader}

-- a reader and a buffer that no call refuses
pub record Fit (r : Reader) (m : List ℕ) : Type 0 where
  pub room : max_segment ≤ length m
  pub formed : malformed r ≡ false

module _ (r : Reader) (xs m : List ℕ) where
  pub read-buffer_too_small : length m < max_segment → read r xs m ≡ refusal r m buffer_too_small
  unfolding read refusals
  read-buffer_too_small k = simp (lt-ltb _ _ k)

  module _ (k : max_segment ≤ length m) where
    pub read-bad_state : malformed r ≡ true → read r xs m ≡ refusal r m bad_state
    unfolding read refusals
    read-bad_state e = simp (le-ltb _ _ k, e)

    pub read_scan_lem : malformed r ≡ false → read r xs m ≡ scan_call r xs m
    unfolding read refusals
    read_scan_lem e = simp (le-ltb _ _ k, e)

  -- what holds of every refusal, and of a scan where none applies, holds of a call
  pub read_ind : (P : Call → Type 0) → ((n : ℕ) → P (refusal r m n)) → (Fit r m → P (scan_call r xs m)) → P (read r xs m)
  unfolding read refusals
  read_ind P f s =
      either P (ltb (length m) max_segment) (λ _. f buffer_too_small)
      (λ k. either P (malformed r) (λ _. f bad_state) (λ e. s (record { room = ltb-false _ _ k; formed = e })))
