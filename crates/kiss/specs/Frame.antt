-- KISS: a frame and a line of frames, as written. Cited by the writer's contract, by the round trip and by the conversions. Assumes nothing.
--
--   typed d           a payload d behind the type octet of data for port 0
--   body_of kind d     a payload behind any type octet, escaped
--   body d            the same with that of data for port 0
--   frame at_flag d    one frame; at_flag: the line stands at a flag already
--   line ds           a list of frames
--   frames at_flag ds  the same, written one frame at a time
use Rattle.std.specs.Prelude.{ℕ, Bool, List, [], ◌∷◌, map, ◌≡◌, refl}
use Rattle.framing.specs.Writing as framing
use Rattle.kiss.specs.Octets.{is_escaped, behind, writing, data_type}

-- type and payload
abbrev pub typed : List ℕ → List ℕ
typed d = data_type ∷ d

-- "the type octet is escaped like any other"
unfoldable pub body_of : (kind : ℕ) → List ℕ → List ℕ
body_of kind d = framing.escaped writing (kind ∷ d)

unfoldable pub body : List ℕ → List ℕ
body d = body_of data_type d

-- one frame, "one frame at a time"
unfoldable pub frame : (at_flag : Bool) → List ℕ → List ℕ
frame at_flag d = framing.frame writing at_flag (typed d)

-- "a list is written as one flag, then each body and a flag; an empty list writes nothing"
unfoldable pub line : List (List ℕ) → List ℕ
line ds = framing.line writing (map typed ds)

-- frames written one at a time: the first where at_flag says, the others at the flag that closed the one before
unfoldable pub frames : (at_flag : Bool) → List (List ℕ) → List ℕ
frames at_flag ds = framing.frames writing at_flag (map typed ds)

-- ---- worked cases
-- TAPR's specification: the letters TEST to port 0; and its text on transposed octets: C0 DB in the payload
pub letters : line ((0x54 ∷ 0x45 ∷ 0x53 ∷ 0x54 ∷ []) ∷ []) ≡ 0xC0 ∷ 0x00 ∷ 0x54 ∷ 0x45 ∷ 0x53 ∷ 0x54 ∷ 0xC0 ∷ []
unfolding line framing.line framing.bodies framing.escaped framing.escaped_one is_escaped
letters = refl

pub transposed : line ((0xC0 ∷ 0xDB ∷ []) ∷ (0xDC ∷ []) ∷ []) ≡ 0xC0 ∷ 0x00 ∷ 0xDB ∷ 0xDC ∷ 0xDB ∷ 0xDD ∷ 0xC0 ∷ 0x00 ∷ 0xDC ∷ 0xC0 ∷ []
unfolding line framing.line framing.bodies framing.escaped framing.escaped_one is_escaped behind
transposed = refl

-- command 0 of port 12 has the flag for its type octet
pub escaped_type : body_of 0xC0 (0x41 ∷ []) ≡ 0xDB ∷ 0xDC ∷ 0x41 ∷ []
unfolding body_of framing.escaped framing.escaped_one is_escaped behind
escaped_type = refl
