-- The line sheet: the places of a line's counts, in the order in which they are printed. Cited by the printed line and by the theorems. Assumes
-- nothing.
use Rattle.std.specs.Prelude.{ℕ, ◌+◌}

-- "octets before the first flag, flags, octets in reported stretches, octets after the last flag"
abbrev pub before_at : ℕ
before_at = 0

abbrev pub flags_at : ℕ
flags_at = 1

abbrev pub in_segments_at : ℕ
in_segments_at = 2

abbrev pub after_at : ℕ
after_at = 3

-- "a fifth octet count, for skipped octets between two flags", "printed after the four"
abbrev pub skipped_at : ℕ
skipped_at = 4

-- "reports of each kind" by number: 10 to 14, then 16 (2026-04), and the place behind them
abbrev pub frames_at : ℕ
frames_at = 5

abbrev pub aborted_at : ℕ
aborted_at = 6

abbrev pub long_at : ℕ
long_at = 7

abbrev pub short_at : ℕ
short_at = 8

abbrev pub bad_checks_at : ℕ
bad_checks_at = 9

abbrev pub bad_pairs_at : ℕ
bad_pairs_at = 10

abbrev pub reports_end : ℕ
reports_end = bad_pairs_at + 1

-- "DATA, DACK and repeats"
abbrev pub data_at : ℕ
data_at = 11

abbrev pub dack_at : ℕ
dack_at = 12

abbrev pub repeats_at : ℕ
repeats_at = 13
