-- The rule by which the shared loop reads a line, as framing's rules: each field says what one of framing's does. Cited by the contract of `scan` and by
-- the readers, each of which shows that its own rules are those of the rule that it hands over. Assumes nothing.
use Rattle.std.specs.Prelude.{ℕ, ◌+◌, ◌%◌, Bool, true, false, cond, not, ◌&&◌, ltb, eqb}
use Rattle.std.specs.Int.Bits.{bit_xor}
use Rattle.deframer.specs.declared.Rule.{Rule}
use Rattle.escapes.specs.Escapes.{is_escaped, is_partner, stands_for}
use Rattle.fcs.specs.Fcs.{preset, feed}
use Rattle.framing.specs.Rules.{Rules, State}

-- the running checks
abbrev pub sum_check : ℕ
sum_check = 0

abbrev pub register_check : ℕ
register_check = 1

abbrev pub first_check : ℕ
first_check = 2

-- raw octets that are escaped, but for the flag and the escape, are skipped
unfoldable pub is_skipped : Rule → (x : ℕ) → Bool
is_skipped r x = cond (eqb x r.escapes.flag) false (cond (eqb x r.escapes.escape) false (is_escaped r.escapes x))

-- the octet that y, behind the escape, stands for: y masked; where there is no mask, the octet that is escaped as y, and "another octet stands for
-- itself"
unfoldable pub partner_of : Rule → (y : ℕ) → ℕ
partner_of r y = cond (eqb r.mask 0) (cond (is_partner r.escapes y) (stands_for r.escapes y) y) (bit_xor y r.mask)

unfoldable pub is_bad_pair : Rule → (y : ℕ) → Bool
is_bad_pair r y = r.strict && not (is_partner r.escapes y)

-- the running check before any octet: ones for the register
abbrev pub blank_of : (kind : ℕ) → ℕ
blank_of kind = cond (eqb kind register_check) preset 0

-- after one octet more, n octets before it: the sum modulo 256; the register; for first_check and every other number the first octet
unfoldable pub added : (kind n a x : ℕ) → ℕ
added kind n a x =
    cond (eqb kind sum_check) ((a + x) % 256)
    (cond (eqb kind register_check) (feed a x)
    (cond (eqb n 0) x a))

-- whether a number can be one: a sum modulo 256 is below 256
abbrev pub is_check_of : (kind a : ℕ) → Bool
is_check_of kind a = cond (eqb kind sum_check) (ltb a 256) true

-- a segment is reported as the state in which its closing flag found it
abbrev pub rules_of : Rule → Rules ℕ (State ℕ)
rules_of r = record {
  flag = r.escapes.flag;
  escape = r.escapes.escape;
  skips = is_skipped r;
  partner = partner_of r;
  bad_pair = is_bad_pair r;
  cap = r.cap;
  blank = blank_of r.check;
  add = added r.check;
  is_blank = λ a. eqb a (blank_of r.check);
  is_check = is_check_of r.check;
  verdict = λ d b n a. record { synced = true; pending = d; bad = b; count = n; check = a };
  from = λ s. 0;
  size = λ s. 0;
}
