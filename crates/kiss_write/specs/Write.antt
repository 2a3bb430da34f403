-- KISS: what the frame writer answers, and what the out buffer then holds. Cited by its contract. Assumes nothing.
use Rattle.std.specs.Prelude.{ℕ, Bool, List, [], ◌∷◌, ltb, eqb, length}
use Rattle.common.specs.Refusals.{Refusal, guarded}
use Rattle.kiss.specs.Answers.{out_too_small}
use Rattle.kiss.specs.Frame.{frame}
use Rattle.qaft.specs.Answers.{no_data, data_too_long}
use Rattle.qaft.specs.Limits.{max_data}
use Rattle.qaft_write.specs.Answer.{Outcome, refusal, wrote}

-- "the writer gives 1, 2, then 64 out store too small", by this frame's length; room is the length of the out buffer
unfoldable pub refusals : (at_flag : Bool) (d : List ℕ) (room : ℕ) → List Refusal
refusals at_flag d room =
    (eqb (length d) 0, no_data)
    ∷ (ltb max_data (length d), data_too_long)
    ∷ (ltb room (length (frame at_flag d)), out_too_small)
    ∷ []

-- the frame writer: "writing goes as in 01"
unfoldable pub write_frame : (at_flag : Bool) (d out : List ℕ) → Outcome
write_frame at_flag d out = guarded (refusals at_flag d (length out)) (refusal out) (wrote out (frame at_flag d))
