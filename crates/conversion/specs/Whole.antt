-- A capture that is held whole: what a conversion answers, and what the out buffer then holds. Cited by the contracts. Assumes nothing.
use Rattle.std.specs.Prelude.{ℕ, Bool, List, [], ◌∷◌, ltb, length}
use Rattle.common.specs.Buffer.{with_front}
use Rattle.common.specs.Refusals.{Refusal, guarded}
use Rattle.conversion.specs.declared.Conversion.{Conversion}
use Rattle.conversion_laws.specs.Frames.{source_counts, conversion_of}
use Rattle.converter.specs.Convert.{too_small}
use Rattle.qaft.specs.Answers.{done, bad_level}
use Rattle.qaft.specs.Limits.{max_level}

-- a call's outcome: its answer, and the out buffer after it
pub record Outcome : Type 0 where
  pub answer : Conversion
  pub buffer : List ℕ

-- a refusal with the number n leaves the out buffer alone, and all other numbers are 0
unfoldable pub refusal : (out : List ℕ) (n : ℕ) → Outcome
refusal out n = record { answer = record { number = n; length = 0; frames = 0; skipped = 0; others = 0 }; buffer = out }

-- "writes the frames in order and answers how many, how many 63s and how many other reports"
unfoldable pub converted : (to_kiss : Bool) (level : ℕ) (l out : List ℕ) → Outcome
converted to_kiss level l out =
    let line = conversion_of to_kiss level l in
    let c = source_counts to_kiss level l in
    record { answer = record { number = done; length = length line; frames = c.frames; skipped = c.skipped; others = c.others }; buffer = with_front line out }

-- "conversions 6, then 64 (to KISS) or 3", by the exact whole length; room is the length of the out buffer
unfoldable pub refusals : (to_kiss : Bool) (level : ℕ) (l : List ℕ) (room : ℕ) → List Refusal
refusals to_kiss level l room = (ltb max_level level, bad_level) ∷ (ltb room (length (conversion_of to_kiss level l)), too_small to_kiss) ∷ []

unfoldable pub convert_whole : (to_kiss : Bool) (level : ℕ) (l out : List ℕ) → Outcome
convert_whole to_kiss level l out = guarded (refusals to_kiss level l (length out)) (refusal out) (converted to_kiss level l out)
