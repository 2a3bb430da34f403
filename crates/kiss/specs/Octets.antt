-- KISS: octets on the line, and the type octet. Cited by the writer's and the reader's definitions. Assumes nothing.
use Rattle.std.specs.Prelude.{ℕ, ◌/◌, ◌%◌, Bool, true, cond, not, ◌&&◌, ◌||◌, ◌≡◌, refl, eqb}
use Rattle.escapes.specs.declared.Escapes.{Escapes}
use Rattle.framing.specs.Writing.{Writing}

-- "flag C0, escape DB, with DC and DD standing for C0 and DB"
abbrev pub flag : ℕ
flag = 0xC0

abbrev pub escape_octet : ℕ
escape_octet = 0xDB

abbrev pub escaped_flag : ℕ
escaped_flag = 0xDC

abbrev pub escaped_escape : ℕ
escaped_escape = 0xDD

unfoldable pub is_escaped : (x : ℕ) → Bool
is_escaped x = eqb x flag || eqb x escape_octet

unfoldable pub behind : (x : ℕ) → ℕ
behind x = cond (eqb x flag) escaped_flag escaped_escape

-- the octet that y, behind the escape, stands for: "another octet stands for itself"
unfoldable pub stands_for : (y : ℕ) → ℕ
stands_for y = cond (eqb y escaped_flag) flag (cond (eqb y escaped_escape) escape_octet y)

-- "DB before anything but DC or DD is reported"
unfoldable pub is_bad_escape : (y : ℕ) → Bool
is_bad_escape y = not (eqb y escaped_flag || eqb y escaped_escape)

-- how a line is written
abbrev pub writing : Writing
writing = record { flag = flag; escape = escape_octet; escapes = is_escaped; behind = behind }

-- the same as four octets, each with what stands for it behind the escape; there are two, and they stand there twice
unfoldable pub escapes : Escapes
escapes = record {
  flag = flag;
  escape = escape_octet;
  others = true;
  third = flag;
  fourth = escape_octet;
  behind_flag = escaped_flag;
  behind_escape = escaped_escape;
  behind_third = escaped_flag;
  behind_fourth = escaped_escape;
}

-- "a type octet with port in the high and command in the low nibble"
unfoldable pub port_of : (t : ℕ) → ℕ
port_of t = t / 16

unfoldable pub command_of : (t : ℕ) → ℕ
command_of t = t % 16

-- data frames of port 0, which are read and written; the command of a data frame is 0
unfoldable pub is_data : (t : ℕ) → Bool
is_data t = eqb (port_of t) 0 && eqb (command_of t) 0

-- their type octet
abbrev pub data_type : ℕ
data_type = 0

-- ---- worked cases
pub port_1_command_2 : (port_of 0x12 ≡ 1) × (command_of 0x12 ≡ 2)
unfolding port_of command_of
port_1_command_2 = (refl, refl)
