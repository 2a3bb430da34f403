-- The cases of a conversion: each refusal, and the line written. Assumes nothing.
use Prim.Native.Nat.{ℕ, ◌≤◌, ◌<◌}
use mathlib.Core.Bool.{Bool}
use mathlib.Core.List.{List}
use mathlib.Core.Path.{◌≡◌}
use borrow.Author.Tests.{lt-ltb, le-ltb}
use lib.ListN.{length}
use Rattle.conversion.specs.Whole.{refusal, converted, refusals, convert_whole}
use Rattle.conversion_laws.specs.Frames.{conversion_of}
use Rattle.converter.specs.Convert.{too_small}
use Rattle.qaft.specs.Answers.{bad_level}
use Rattle.qaft.specs.Limits.{max_level}

module _ (to_kiss : Bool) (level : ℕ) (l out : List ℕ) where
  pub whole-bad_level : max_level < level → convert_whole to_kiss level l out ≡ refusal out bad_level
  unfolding convert_whole refusals
  whole-bad_level h = simp (lt-ltb _ _ h)

  module _ (h : level ≤ max_level) where
    pub whole-too_small : length out < length (conversion_of to_kiss level l) → convert_whole to_kiss level l out ≡ refusal out (too_small to_kiss)
    unfolding convert_whole refusals
    whole-too_small k = simp (le-ltb _ _ h, lt-ltb _ _ k)

    pub whole_converted : length (conversion_of to_kiss level l) ≤ length out → convert_whole to_kiss level l out ≡ converted to_kiss level l out
    unfolding convert_whole refusals
    whole_converted k = simp (le-ltb _ _ h, le-ltb _ _ k)
