-- What a length and a data offset that are not refused say. Assumes nothing.
use Prim.Native.Nat.{ℕ, ◌+◌, ◌-◌, ◌≤◌}
use native.Mathlib.Omega.{arith}
use borrow.Author.Tests.{ltb-false}
use Rattle.common.proofs.Refusals.{Passed}
use Rattle.afp.specs.Limits.{min_frame, max_frame, min_header, max_header}
use Rattle.afp.specs.Sizes.{length_refusals, offset_refusals}

pub length-passed : (n : ℕ) → Passed (length_refusals n) → (min_frame ≤ n) × (n ≤ max_frame)
length-passed n p = (ltb-false n min_frame p.0, ltb-false max_frame n p.1.0)

pub offset_passed : (offset n : ℕ) → min_frame ≤ n → Passed (offset_refusals offset n) → (min_header ≤ offset) × (offset ≤ max_header) × (offset + 2 ≤ n)
offset_passed offset n l p =
    let c : offset ≤ n - 2 = ltb-false (n - 2) offset p.1.1.0 in
    (ltb-false offset min_header p.0, ltb-false max_header offset p.1.0, omega arith)
