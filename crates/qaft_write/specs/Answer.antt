-- What a frame writer answers, and what the out buffer then holds, on a refusal and otherwise: for QAFT and for every framing whose "writing goes as in
-- 01". Cited by the definitions of writers. Assumes nothing.
use Rattle.std.specs.Prelude.{ℕ, List, length, Result, Ok, Err}
use Rattle.common.specs.Buffer.{with_front}
use Rattle.qaft.specs.Answers.{done}
use Rattle.qaft_write.specs.declared.Written.{Written}

-- a call's outcome: its answer, and the out buffer after it
pub record Outcome : Type 0 where
  pub answer : Written
  pub buffer : List ℕ

-- a refusal with the number n: "changes nothing lent, and every other number in the answer is 0"
unfoldable pub refusal : (out : List ℕ) (n : ℕ) → Outcome
refusal out n = record { answer = record { number = n; length = 0 }; buffer = out }

-- octets at the front of the out buffer, "their number in the answer beside 0, and the rest is as before"
unfoldable pub wrote : (out : List ℕ) → List ℕ → Outcome
wrote out xs = record { answer = record { number = done; length = length xs }; buffer = with_front xs out }

-- a writer's result in numbers, a refusal by the number that its framing gives it
abbrev pub written_of : {E : Type 0} (number : E → ℕ) → Result ℕ E → Written
written_of number (Ok n) = record { number = done; length = n }
written_of number (Err e) = record { number = number e; length = 0 }
