-- Framing: what is written on a flagged line, and how it fits the rules of reading. Cited by the contracts of writers, by the round trip and by the
-- law on canonical bodies. Assumes nothing.
--
--   escaped w xs         octets on the line
--   frame w at_flag b     one body (data with their check, if there is one) between its flags
--   line w bs            a list of bodies
--   frames w at_flag bs   the same, written one body at a time
use Rattle.std.specs.Prelude.{ℕ, ◌<◌, Bool, true, false, cond, List, [], ◌∷◌, ◌++◌, ◌≡◌, eqb}
use Rattle.framing.specs.Rules.{Rules}

-- the flag and the escape; which octets are escaped, and what then stands behind the escape
pub record Writing : Type 0 where
  pub flag : ℕ
  pub escape : ℕ
  pub escapes : ℕ → Bool
  pub behind : ℕ → ℕ

module _ (writing : Writing) where
  -- one octet on the line: itself, or an escape and its partner
  unfoldable pub escaped_one : (x : ℕ) → List ℕ
  escaped_one x = cond (writing.escapes x) (writing.escape ∷ writing.behind x ∷ []) (x ∷ [])

  -- octets on the line
  unfoldable pub escaped : List ℕ → List ℕ
  escaped [] = []
  escaped (x ∷ xs) = escaped_one x ++ escaped xs

  -- the flag that opens a frame, where "the line already stands at a flag" none
  abbrev pub opening : (at_flag : Bool) → List ℕ
  opening true = []
  opening false = writing.flag ∷ []

  -- one frame, "one frame at a time"
  unfoldable pub frame : (at_flag : Bool) (b : List ℕ) → List ℕ
  frame at_flag b = opening at_flag ++ (escaped b ++ (writing.flag ∷ []))

  -- "each body and a flag"
  unfoldable pub bodies : List (List ℕ) → List ℕ
  bodies [] = []
  bodies (b ∷ bs) = escaped b ++ (writing.flag ∷ bodies bs)

  -- "a list is written as one flag, then each body and a flag; an empty list writes nothing"
  unfoldable pub line : List (List ℕ) → List ℕ
  line [] = []
  line (b ∷ bs) = writing.flag ∷ bodies (b ∷ bs)

  -- frames written one at a time: the first where at_flag says, the others at the flag that closed the one before
  unfoldable pub frames : (at_flag : Bool) → List (List ℕ) → List ℕ
  frames at_flag [] = []
  frames at_flag (b ∷ bs) = frame at_flag b ++ frames true bs

module _ {A R : Type 0} (rules : Rules A R) (writing : Writing) where
  -- reading undoes what is written
  pub record Undoes : Type 0 where
    -- the flag and the escape are the reader's; the escape is no flag, and not skipped
    pub flag_is : eqb writing.flag rules.flag ≡ true
    pub escape_is : eqb writing.escape rules.escape ≡ true
    pub escape_kept : (eqb writing.escape rules.flag ≡ false) × (rules.skips writing.escape ≡ false)
    -- an octet that is written as it is
    pub plain : (x : ℕ) → writing.escapes x ≡ false → (eqb x rules.flag ≡ false) × (eqb x rules.escape ≡ false) × (rules.skips x ≡ false)
    -- the partner of an octet that is escaped: no flag, and not skipped; the pair is good, and stands for the octet
    pub partner_kept : (x : ℕ) → writing.escapes x ≡ true → (eqb (writing.behind x) rules.flag ≡ false) × (rules.skips (writing.behind x) ≡ false)
    pub pair : (x : ℕ) → writing.escapes x ≡ true → (rules.partner (writing.behind x) ≡ x) × (rules.bad_pair (writing.behind x) ≡ false)

  -- each octet has one spelling: "a pair is good only if it stands for an octet that the level escapes"; and an octet that is escaped never
  -- stands raw in a segment, but for those that are skipped
  pub record Canonical : Type 0 where
    pub escape_is : eqb writing.escape rules.escape ≡ true
    pub good_pair : (y : ℕ) → rules.bad_pair y ≡ false → (writing.escapes (rules.partner y) ≡ true) × (writing.behind (rules.partner y) ≡ y)
    pub raw : (x : ℕ) → eqb x rules.flag ≡ false → eqb x rules.escape ≡ false → rules.skips x ≡ false → writing.escapes x ≡ false
    -- what is escaped is an octet
    pub octet : (x : ℕ) → writing.escapes x ≡ true → x < 256
