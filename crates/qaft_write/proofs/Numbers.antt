-- A writer's result in numbers, by what the conversion promises of each case. Assumes nothing.
use Prim.Native.Nat.{ℕ}
use mathlib.Core.Path.{◌≡◌, refl}
use Rattle.std.specs.Prelude.{Result, Ok, Err, MatchResult}
use Rattle.std.specs.Result.{result_unwrap_or}
use Rattle.qaft.specs.Answers.{done}
use Rattle.qaft_write.specs.Answer.{written_of}
use Rattle.qaft_write.specs.declared.Written.{Written}

pub written_is : {E : Type 0} (number : E → ℕ) (r : Result ℕ E) (w : Written)
    → MatchResult r (λ n. w ≡ record { number = done; length = n }) (λ e. (w.number ≡ number e) × (w.length ≡ 0)) → w ≡ written_of number r
written_is number (Ok n) w h = h
written_is number (Err e) w h = λ i. record { number = h.0 i; length = h.1 i }

-- what a refused call wrote is nothing
pub length_is : {E : Type 0} (number : E → ℕ) (r : Result ℕ E) → result_unwrap_or r 0 ≡ (written_of number r).length
length_is number (Ok n) = refl
length_is number (Err e) = refl
