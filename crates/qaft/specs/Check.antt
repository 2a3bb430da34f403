-- QAFT: the check of a frame's data, of either kind. Cited by the definitions of frames and by the rules of reading. Assumes nothing.
--
--   check_octet d     QAFT's check octet
--   sum_check         what a check is made of and told by, by the sum
--   fcs_check         the same by the check sequence of ISO 3309 (2026-07)
--   check_by kind     that of a kind
--   check_pair kind d the check octets in two places
use Rattle.std.specs.Prelude.{ℕ, ◌+◌, ◌-◌, ◌%◌, Bool, true, List, [], ◌∷◌, ◌++◌, take, nat_lt}
use Rattle.fcs.specs.Fcs.{preset, residue, feed, check_octets}
use Rattle.octets.specs.Sum.{sum}
use Rattle.qaft.specs.Limits.{fcs_size, by_kind}

-- "the two's complement of their sum modulo 256"
unfoldable pub check_octet : List ℕ → ℕ
check_octet d = (256 - sum d % 256) % 256

pub record Check : Type 0 where
  -- the octets behind the data d
  pub octets : (d : List ℕ) → List ℕ
  -- the running check that the reader holds: before any octet, after one more, and after data with their check
  pub blank : ℕ
  pub add : (a x : ℕ) → ℕ
  pub good : ℕ
  -- whether a number can be one
  pub is_check : (a : ℕ) → Bool

-- "data and check sum to 0 modulo 256"
abbrev pub sum_check : Check
sum_check = record { octets = λ d. check_octet d ∷ []; blank = 0; add = λ a x. (a + x) % 256; good = 0; is_check = λ a. nat_lt a 256 }

-- "the ISO 3309 sequence over the data only, in the same octet order as AFP's", so the low octet first, and complemented: "document 000 is silent on the
-- complement, ISO 3309 decides". "The state holds the running check in place of the sum": the register, "all ones at count 0", which data and check leave at
-- the residue
abbrev pub fcs_check : Check
fcs_check = record { octets = λ d. check_octets d; blank = preset; add = feed; good = residue; is_check = λ a. true }

abbrev pub check_by : (kind : ℕ) → Check
check_by kind = by_kind kind sum_check fcs_check

-- these octets with a 0 behind them, in as many places as the longer check has
unfoldable pub check_pair : (kind : ℕ) → List ℕ → List ℕ
check_pair kind d = take fcs_size ((check_by kind).octets d ++ (0 ∷ []))
