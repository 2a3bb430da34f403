-- QAFT: the numbers given back. Cited by the contracts of writer and reader. Assumes nothing.
use Rattle.std.specs.Prelude.{ℕ}

abbrev pub done : ℕ
done = 0

-- writer: no data; over 2,560 octets; out buffer shorter than what is to be written
abbrev pub no_data : ℕ
no_data = 1

abbrev pub data_too_long : ℕ
data_too_long = 2

abbrev pub out_too_small : ℕ
out_too_small = 3

-- reader: buffer under 2,561 octets, with the longer check under 2,562; state that is not well formed
abbrev pub buffer_too_small : ℕ
buffer_too_small = 4

abbrev pub bad_state : ℕ
bad_state = 5

-- writer and reader: level not 0 or 1
abbrev pub bad_level : ℕ
bad_level = 6

-- writer and reader: check kind not 0 or 1 (2026-07), "judged after 6"
abbrev pub bad_kind : ℕ
bad_kind = 7

-- reader's reports: "frame, aborted, long, short, bad check"
abbrev pub frame : ℕ
frame = 10

abbrev pub aborted : ℕ
aborted = 11

abbrev pub long : ℕ
long = 12

abbrev pub short : ℕ
short = 13

abbrev pub bad_check : ℕ
bad_check = 14

-- "portion used up without a report"
abbrev pub used_up : ℕ
used_up = 15

-- "report 16 bad pair" (2026-04)
abbrev pub bad_pair : ℕ
bad_pair = 16
