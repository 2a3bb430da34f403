-- QAFT: octets on the line, and which of them are escaped. Cited by the writer's and the reader's definitions. Assumes nothing.
use Rattle.std.specs.Prelude.{ℕ, Bool, ◌&&◌, ◌||◌, ◌==◌, bit_xor}
use Rattle.escapes.specs.declared.Escapes.{Escapes}
use Rattle.framing.specs.Writing.{Writing}

-- "flag 7E, escape 7D"
abbrev pub flag : ℕ
flag = 0x7E

abbrev pub escape_octet : ℕ
escape_octet = 0x7D

-- flow control of the serial line: DC1 and DC3
abbrev pub xon : ℕ
xon = 0x11

abbrev pub xoff : ℕ
xoff = 0x13

-- an octet as it stands behind an escape, and the octet that such a one stands for: "the octet xor 20"
abbrev pub mask : ℕ
mask = 0x20

abbrev pub masked : ℕ → ℕ
masked x = bit_xor x mask

-- "at level 1 a raw 11 or 13 is flow control"
unfoldable pub is_flow_control : (level x : ℕ) → Bool
is_flow_control level x = level == 1 && (x == xon || x == xoff)

-- "level 0 replaces 7E and 7D. Level 1 does it for 11 and 13 also."
unfoldable pub is_escaped : (level x : ℕ) → Bool
is_escaped level x = x == flag || (x == escape_octet || is_flow_control level x)

-- how a level writes: an octet is itself, or "7D and the octet xor 20"
abbrev pub writing : (level : ℕ) → Writing
writing level = record { flag = flag; escape = escape_octet; escapes = is_escaped level; behind = masked }

-- the same as four octets, each with what stands for it behind the escape: the flag, the escape, and, at level 1, 11 and 13
unfoldable pub escapes_of : (level : ℕ) → Escapes
escapes_of level = record {
  flag = flag;
  escape = escape_octet;
  others = (level == 1);
  third = xon;
  fourth = xoff;
  behind_flag = masked flag;
  behind_escape = masked escape_octet;
  behind_third = masked xon;
  behind_fourth = masked xoff;
}
