-- QAFT: a frame and a line of frames, as written. Cited by the writer's contract and by the round trip. Assumes nothing.
--
--   sealed kind d                data d and their check
--   body level kind d            the same, escaped
--   frame level kind at_flag d    one frame; at_flag: the line stands at a flag already
--   line level kind ds           a list of frames
--   frames level kind at_flag ds  the same, written one frame at a time
--   Writable ds                  frames of 1 to 2,560 data octets each
use Rattle.std.specs.Prelude.{ℕ, ◌≤◌, Bool, List, [], ◌∷◌, ◌++◌, map, length}
use Rattle.framing.specs.Writing as framing
use Rattle.qaft.specs.Check.{check_by}
use Rattle.qaft.specs.Escape.{writing}
use Rattle.qaft.specs.Limits.{max_data}

-- data and check
abbrev pub sealed : (kind : ℕ) → List ℕ → List ℕ
sealed kind d = d ++ (check_by kind).octets d

-- "in data and check" escaped
unfoldable pub body : (level kind : ℕ) → List ℕ → List ℕ
body level kind d = framing.escaped (writing level) (sealed kind d)

-- one frame, "one frame at a time"
unfoldable pub frame : (level kind : ℕ) (at_flag : Bool) → List ℕ → List ℕ
frame level kind at_flag d = framing.frame (writing level) at_flag (sealed kind d)

-- "a list is written as one flag, then each body and a flag; an empty list writes nothing"
unfoldable pub line : (level kind : ℕ) → List (List ℕ) → List ℕ
line level kind ds = framing.line (writing level) (map (sealed kind) ds)

-- frames written one at a time: the first where at_flag says, the others at the flag that closed the one before
unfoldable pub frames : (level kind : ℕ) (at_flag : Bool) → List (List ℕ) → List ℕ
frames level kind at_flag ds = framing.frames (writing level) at_flag (map (sealed kind) ds)

-- "a frame has 1 to 2,560 data octets"
abbrev pub Writable : List (List ℕ) → Type 0
Writable [] = Unit
Writable (d ∷ ds) = (1 ≤ length d) × (length d ≤ max_data) × Writable ds
