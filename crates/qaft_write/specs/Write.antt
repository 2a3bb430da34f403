-- QAFT: what the frame writer answers, and what the out buffer then holds. Cited by its contract. Assumes nothing.
use Rattle.std.specs.Prelude.{ℕ, Bool, List, [], ◌∷◌, ltb, eqb, length}
use Rattle.common.specs.Refusals.{Refusal, guarded}
use Rattle.qaft.specs.Answers.{no_data, data_too_long, out_too_small, bad_level, bad_kind}
use Rattle.qaft.specs.Frame.{frame}
use Rattle.qaft.specs.Limits.{max_level, max_kind, max_data}
use Rattle.qaft_write.specs.Answer.{Outcome, refusal, wrote}

-- the writer's refusals, "order 6, 1, 2, 3", and "7 check kind not 0 (QAFT) or 1 (this), judged after 6" (2026-07); room is the length of the out buffer
unfoldable pub refusals : (level kind : ℕ) (at_flag : Bool) (d : List ℕ) (room : ℕ) → List Refusal
refusals level kind at_flag d room =
    (ltb max_level level, bad_level)
    ∷ (ltb max_kind kind, bad_kind)
    ∷ (eqb (length d) 0, no_data)
    ∷ (ltb max_data (length d), data_too_long)
    ∷ (ltb room (length (frame level kind at_flag d)), out_too_small)
    ∷ []

-- the frame writer
unfoldable pub write_frame : (level kind : ℕ) (at_flag : Bool) (d out : List ℕ) → Outcome
write_frame level kind at_flag d out = guarded (refusals level kind at_flag d (length out)) (refusal out) (wrote out (frame level kind at_flag d))
