-- The sheet that the program holds: what a file changes of it, and its text. Cited by `with_file` and `put_lines`. Assumes nothing.
use Rattle.std.specs.Prelude.{ℕ, suc, ◌*◌, List, [], ◌∷◌, ◌++◌, ◌≡◌}
use Rattle.std.specs.Prelude.{Option, Some}
use Rattle.sheet.specs.Limits.{lines}
use Rattle.sheet.specs.declared.Tally.{Tally}
use Rattle.sheet_line.specs.Line.{line_text, line_room}
use Rattle.sheet_table.specs.Table.{record_of}

-- "a capture changes only its own line's record": that of every line but the one that was typed is as before, and every record where what was
-- typed is no number
abbrev pub OthersKept : Option ℕ → (before after : List Tally) → Type 0
OthersKept typed before after = (j : ℕ) → (typed ≡ Some j → ⊥) → record_of after j ≡ record_of before j

-- "Printed is one line a record, from 0": the lines of the records ts, of which the first has the number line
unfoldable pub lines_text : (line : ℕ) (ts : List Tally) → List ℕ
lines_text line [] = []
lines_text line (t ∷ ts) = line_text line t.counts ++ lines_text (suc line) ts

-- room for every sheet
abbrev pub sheet_room : ℕ
sheet_room = lines * line_room
