-- The printed line of a record of the line sheet. Cited by `put_line`, and by the text of a whole sheet. Assumes nothing.
--
--   share cs           the share of bad checks in all reports
--   line_text line cs   the line of record number line, which has the counts cs
--
-- "Printed is one line a record, from 0: its number, the counts as named above (kinds by number), the share of bad checks in all reports as
-- two whole numbers in lowest terms, "0/1" where nothing was reported; one space between." The fifth octet count "is printed after the four" (2026-02); bad pairs
-- (16) are printed after bad checks (14), and are among all reports (2026-04).
use Rattle.std.specs.Prelude.{ℕ, ◌+◌, ◌*◌, List, [], ◌∷◌, ◌++◌, take, drop, get_or}
use Rattle.fraction.specs.Fraction.{lowest_of}
use Rattle.fraction.specs.declared.Fraction.{Fraction}
use Rattle.octets.specs.Sum.{sum}
use Rattle.sheet.specs.Limits.{counts_long}
use Rattle.sheet.specs.Places.{frames_at, bad_checks_at, reports_end}
use Rattle.text.specs.Text.{ascii, decimal, max_digits}

-- all reports, of whatever kind
abbrev pub reports_in : (cs : List ℕ) → ℕ
reports_in cs = sum (drop frames_at (take reports_end cs))

abbrev pub bad_checks_in : (cs : List ℕ) → ℕ
bad_checks_in cs = get_or cs bad_checks_at 0

-- "the share of bad checks in all reports as two whole numbers in lowest terms"
unfoldable pub share : (cs : List ℕ) → Fraction
share cs = lowest_of (bad_checks_in cs) (reports_in cs)

-- the counts, a space before each
unfoldable pub counts_text : List ℕ → List ℕ
counts_text [] = []
counts_text (c ∷ cs) = ascii " " ++ (decimal c ++ counts_text cs)

-- the share, a space before it, and the newline
unfoldable pub share_text : Fraction → List ℕ
share_text f = ascii " " ++ (decimal f.numerator ++ (ascii "/" ++ (decimal f.denominator ++ ascii "\n")))

unfoldable pub line_text : (line : ℕ) (cs : List ℕ) → List ℕ
line_text line cs = decimal line ++ (counts_text cs ++ share_text (share cs))

-- the numbers of a line: its own, the counts, and the two of the share
abbrev pub numbers_long : ℕ
numbers_long = counts_long + 3

-- room for every line: each number, and the octet behind it
abbrev pub line_room : ℕ
line_room = numbers_long * (max_digits + 1)

-- and for its parts: each number, and the octet before it; behind the share the newline
abbrev pub counts_room : ℕ
counts_room = counts_long * (max_digits + 1)

abbrev pub share_room : ℕ
share_room = 2 * (max_digits + 1) + 1
