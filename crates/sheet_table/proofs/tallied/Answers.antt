-- `sheet_table::tallied`: a refusal leaves the lines as they were. Assumes nothing.
use Rattle.std.proofs.Common.{◌≡◌, sym, ◌∙◌, rules, Err}
use Rattle.sheet_table.proofs.Lines.{tally_refused}
use Rattle.sheet_table.proofs.tallied.Goals as goal

pub returns-in_err-tally : goal.returns-in_err-tally
returns-in_err-tally c =
    let a = c.args in
    let e : c.from_residual.result ≡ Err c.in_err-tally.field-0.0 = search rules in
    let said = c.in_err-tally.ensures in
    let kept = tally_refused a.lines a.line a.counts (λ z. said.refused (said.value ∙ z)) in
    rw e (record { answer = λ i. record { number = said.value i; lines = sym kept i }; refused = said.refused; case = said.case })
