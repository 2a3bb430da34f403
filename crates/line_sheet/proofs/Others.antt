-- The records of other lines. Assumes nothing.
use Prim.Native.Nat.{ℕ}
use mathlib.Core.List.{List}
use mathlib.Core.Path.{◌≡◌, sym, ap, ◌∙◌}
use Rattle.line_sheet.specs.Sheet.{OthersKept}
use Rattle.std.specs.Prelude.{Option, Some}
use Rattle.sheet.specs.Tallies.{fresh_tally}
use Rattle.sheet.specs.declared.Counts.{Counts}
use Rattle.sheet.specs.declared.Tally.{Tally}
use Rattle.sheet_table.proofs.Lines.{tally_others}
use Rattle.sheet_table.specs.Table.{Sheet, record_of, sheet_of}

-- a capture that was counted for the line that was typed
pub others_kept : (typed : Option ℕ) (n line : ℕ) (ys : List Tally) (c : Counts) (s : Sheet) → typed ≡ Some n → s ≡ sheet_of ys line c → line ≡ n → OthersKept typed ys s.lines
others_kept typed n line ys c s e f here j other =
    ap (λ (s : Sheet). record_of s.lines j) f
    ∙ tally_others ys line c j fresh_tally (λ (same : j ≡ line). other (e ∙ sym (ap Some (same ∙ here))))
