-- `line_sheet::with_file` meets its contract: a file that is not counted changes nothing, one that is changes the record of its line. Assumes nothing.
use Rattle.std.proofs.Common.{sym, ◌∙◌, refl}
use Rattle.line_sheet.proofs.Others.{others_kept}
use Rattle.line_sheet.proofs.with_file.Goals as goal

pub returns-in-Ok : goal.returns-in-Ok
returns-in-Ok c = others_kept _ c.in-Some.line _ _ _ _ (sym c.parse-typed.ensures ∙ c.in-Some.is) c.in-Ok.ensures.answer refl
