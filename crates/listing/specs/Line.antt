-- The line of a report in a listing. Cited by the functions that put it into a lent buffer, and by the text of a whole listing. Assumes nothing.
--
--   report_line k p d       the line of report number k
use Rattle.std.specs.Prelude.{ℕ, ◌+◌, ◌*◌, List, [], ◌++◌, length}
use Rattle.listing.specs.declared.Entry.{Entry}
use Rattle.listing.specs.declared.Entry.TheVariants.{Frame, Aborted, Long, Short, BadCheck, BadPair, BadEscape, Skipped}
use Rattle.qaft.specs.Limits.{max_data}
use Rattle.text.specs.Text.{ascii, decimal, max_digits, hex}

-- the name of a report, a space before it
abbrev pub name : Entry → List ℕ
name (Frame n) = ascii " frame"
name Aborted = ascii " aborted"
name Long = ascii " long"
name Short = ascii " short"
name BadCheck = ascii " bad"
name BadPair = ascii " pair"
name BadEscape = ascii " escape"
name Skipped = ascii " skipped"

-- behind the name of a frame: " N HEX", N the number of its data octets d
unfoldable pub details : Entry → (d : List ℕ) → List ℕ
details (Frame n) d = ascii " " ++ (decimal (length d) ++ (ascii " " ++ hex d))
details Aborted d = []
details Long d = []
details Short d = []
details BadCheck d = []
details BadPair d = []
details BadEscape d = []
details Skipped d = []

-- the line of report number k: "1 frame 2 4041"
unfoldable pub report_line : (k : ℕ) → Entry → (d : List ℕ) → List ℕ
report_line k p d = decimal k ++ (name p ++ (details p d ++ ascii "\n"))

-- room for the line of every report with n data octets: two numbers, a name, two spaces, the data, the newline
abbrev pub line_room : ℕ → ℕ
line_room n = 2 * n + (2 * max_digits + 11)

-- that of the longest frame: room for the line of every report
abbrev pub max_line : ℕ
max_line = line_room max_data
