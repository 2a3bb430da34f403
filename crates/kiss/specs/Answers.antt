-- KISS: the numbers given back that are its own; those that it shares with QAFT (0, 1, 2, 4, 5, 10, 15) have their names there. Cited by the contracts
-- of writer and reader. Assumes nothing.
use Rattle.std.specs.Prelude.{ℕ}

-- reader's reports, beside 10 for a frame: "60 bad escape, 61 short (no payload), 62 long, 63 skipped"
abbrev pub bad_escape : ℕ
bad_escape = 60

abbrev pub short : ℕ
short = 61

abbrev pub long : ℕ
long = 62

abbrev pub skipped : ℕ
skipped = 63

-- writer and conversion to KISS: "64 out store too small"
abbrev pub out_too_small : ℕ
out_too_small = 64
