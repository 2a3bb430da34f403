-- AFP: the sizes and fixed values that document 01 gives. Cited by specs and code of reader and writer. Assumes nothing.
use Rattle.std.specs.Prelude.{ℕ, ◌+◌, ◌-◌}
use Rattle.stations.specs.Fields.{fields_at}

-- "frame 14 to 2,560"
abbrev pub min_frame : ℕ
min_frame = 14

abbrev pub max_frame : ℕ
max_frame = 2560

-- "octet 3 is the header's whole length, 12 to 254"
abbrev pub min_header : ℕ
min_header = 12

abbrev pub max_header : ℕ
max_header = 254

-- the header's octets beside station fields and supplementary header: five before them, and the header sum
abbrev pub fixed_size : ℕ
fixed_size = fields_at + 1

-- the most that station fields and supplementary header take together
abbrev pub max_variable : ℕ
max_variable = max_header - fixed_size

-- "data 0 to 2,304"
abbrev pub max_data : ℕ
max_data = 2304

-- octet 1
abbrev pub version : ℕ
version = 1

-- the protocols FE and FF are reserved
abbrev pub first_reserved : ℕ
first_reserved = 0xFE
