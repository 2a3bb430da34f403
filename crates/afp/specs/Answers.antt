-- AFP: the numbers given back. Cited by specs and code of reader and writer. Assumes nothing.
use Rattle.std.specs.Prelude.{ℕ}

abbrev pub done : ℕ
done = 0

-- refusals of the reader, in rising order; some are the writer's too
abbrev pub bad_length : ℕ
bad_length = 30

abbrev pub bad_check : ℕ
bad_check = 31

abbrev pub bad_version : ℕ
bad_version = 32

abbrev pub bad_protocol : ℕ
bad_protocol = 33

abbrev pub bad_offset : ℕ
bad_offset = 34

abbrev pub bad_stations : ℕ
bad_stations = 35

abbrev pub bad_next : ℕ
bad_next = 36

abbrev pub bad_next_sum : ℕ
bad_next_sum = 37

abbrev pub bad_supplementary : ℕ
bad_supplementary = 38

abbrev pub bad_header_sum : ℕ
bad_header_sum = 39

abbrev pub bad_data : ℕ
bad_data = 40

-- the writer's alone: "AFP out store shorter than this frame"
abbrev pub out_too_small : ℕ
out_too_small = 41
