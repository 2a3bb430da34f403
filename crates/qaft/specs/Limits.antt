-- QAFT: levels, check kinds and the sizes that document 01 and request 2026-07 give. Cited by the definitions and contracts of writer and reader. Assumes
-- nothing.
use Rattle.std.specs.Prelude.{ℕ, ◌+◌, ◌*◌, cond, ◌==◌}

-- levels 0 and 1
abbrev pub max_level : ℕ
max_level = 1

-- check kinds, "0 (QAFT) or 1 (this)" (2026-07): a check octet by the sum of the data, or the two-octet check sequence of ISO 3309. The definitions take
-- every other number for 0; writer and reader refuse it
abbrev pub sum_kind : ℕ
sum_kind = 0

abbrev pub fcs_kind : ℕ
fcs_kind = 1

abbrev pub max_kind : ℕ
max_kind = 1

abbrev pub by_kind : {A : Type 0} (kind : ℕ) (of_sum of_fcs : A) → A
by_kind kind of_sum of_fcs = cond (kind == fcs_kind) of_fcs of_sum

-- "a frame has 1 to 2,560 data octets"
abbrev pub max_data : ℕ
max_data = 2560

-- "then one check octet"; with the longer check two
abbrev pub sum_size : ℕ
sum_size = 1

abbrev pub fcs_size : ℕ
fcs_size = 2

abbrev pub check_size : (kind : ℕ) → ℕ
check_size kind = by_kind kind sum_size fcs_size

-- the octets of a segment (the paper's "stretch"), escapes undone: a frame has 2 to 2,561, data and check; with the longer check "long is over 2,562, short
-- is under 3"
abbrev pub min_segment_of : (kind : ℕ) → ℕ
min_segment_of kind = 1 + check_size kind

abbrev pub max_segment_of : (kind : ℕ) → ℕ
max_segment_of kind = max_data + check_size kind

-- QAFT's own
abbrev pub max_segment : ℕ
max_segment = max_segment_of sum_kind

-- the reader's count: "2,562 stands for all above"; with the longer check "a count of 2,563 stands for all above"
abbrev pub count_cap_of : (kind : ℕ) → ℕ
count_cap_of kind = max_segment_of kind + 1

-- "one frame takes at most 5,124 octets", with the longer check "at most 5,126": two flags, and each octet of data and check escaped
abbrev pub max_frame_of : (kind : ℕ) → ℕ
max_frame_of kind = 2 * max_segment_of kind + 2

abbrev pub max_frame : ℕ
max_frame = max_frame_of sum_kind
