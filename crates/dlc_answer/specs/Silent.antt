-- An answer with a number alone. Cited by the answer's function. Assumes nothing.
use Rattle.std.specs.Prelude.{ℕ, false, replicate}
use Rattle.dlc_queue.specs.Queue.{slots}
use Rattle.dlc_answer.specs.declared.Answer.{Answer}

-- nothing is sent, and nothing is told to the upper layer
abbrev pub silent : ℕ → Answer
silent c = record { code = c; upper_reset = false; delivered = false; sent = 0; lengths = replicate slots 0 }
