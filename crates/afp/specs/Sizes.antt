-- AFP: how the length of a frame and its data offset are refused. Cited by every reader of frames. Assumes nothing.
use Rattle.std.specs.Prelude.{List, [], ◌∷◌, ℕ, ◌-◌, ltb}
use Rattle.common.specs.Refusals.{Refusal}
use Rattle.afp.specs.Limits.{min_frame, max_frame, min_header, max_header}
use Rattle.afp.specs.Answers.{bad_length, bad_offset}

-- "frame length", by the frame's length n
abbrev pub length_refusals : (n : ℕ) → List Refusal
length_refusals n = (ltb n min_frame, bad_length) ∷ (ltb max_frame n, bad_length) ∷ []

-- "offset not 12 to 254 or over the frame length less 2", by the offset and the frame's length
abbrev pub offset_refusals : (offset n : ℕ) → List Refusal
offset_refusals offset n = (ltb offset min_header, bad_offset) ∷ (ltb max_header offset, bad_offset) ∷ (ltb (n - 2) offset, bad_offset) ∷ []
