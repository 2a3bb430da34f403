-- KISS: the sizes that request 2026-05 gives; "payloads have 1 to 2,560 octets", which is QAFT's limit on data (`max_data`). Cited by the definitions and
-- contracts of writer and reader. Assumes nothing.
use Rattle.std.specs.Prelude.{ℕ, ◌+◌, ◌*◌}
use Rattle.qaft.specs.Limits.{max_data}

-- "the type octet is escaped like any other, counted and stored first"
abbrev pub type_size : ℕ
type_size = 1

-- the octets of a segment (the paper's "stretch"), escapes undone: a frame has 2 to 2,561, type and payload
abbrev pub min_segment : ℕ
min_segment = type_size + 1

abbrev pub max_segment : ℕ
max_segment = type_size + max_data

-- the reader's count: 2,562 stands for all above
abbrev pub count_cap : ℕ
count_cap = max_segment + 1

-- one frame takes at most 5,123 octets: two flags, the type octet of a data frame of port 0, and each octet of the payload escaped
abbrev pub max_frame : ℕ
max_frame = 2 + type_size + 2 * max_data
