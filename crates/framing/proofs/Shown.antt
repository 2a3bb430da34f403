-- The octets that a report shows of a buffer: as many as it says where the buffer has them, and never more. Assumes nothing.
use Prim.Native.Nat.{ℕ, ◌+◌, ◌≤◌}
use mathlib.Core.List.{List}
use mathlib.Core.Path.{◌≡◌, ap, ◌∙◌}
use native.Mathlib.Omega.{arith}
use borrow.Author.Tests.{le-leb}
use lib.Dec.{leb}
use lib.ListN.{length, take, drop, length-take, length-drop}
use lib.Seq.{length-take-le}
use Rattle.common.proofs.Bools.{either}
use Rattle.framing.specs.Reports.{shown}

module _ (m : List ℕ) (i n : ℕ) where
  pub shown_part : i + n ≤ length m → shown m i n ≡ take n (drop i m)
  shown_part h = rw (le-leb (i + n) (length m) h)

  pub length-shown : i + n ≤ length m → length (shown m i n) ≡ n
  length-shown h = ap length (shown_part h) ∙ length-take-le n (drop i m) (omega (arith, length-drop i m))

  pub shown_short : length (shown m i n) ≤ n
  shown_short = either (λ (d : List ℕ). length d ≤ n) (leb (i + n) (length m)) (λ _. omega (arith, length-take n (drop i m))) (λ _. omega arith)
