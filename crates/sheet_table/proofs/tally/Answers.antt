-- `sheet_table::tally`: the answer by value put in its place, or a refusal that looks at no record.
use Rattle.std.proofs.Common.{◌≡◌, refl, arith, rules, Err}
use Rattle.std.proofs.lemmas.List.{get_or_default}
use Rattle.sheet.specs.Tallies.{fresh_tally}
use Rattle.sheet_table.proofs.Answers.{ends_ok, ends_err, ends_given, ends_past}
use Rattle.sheet_table.proofs.tally.Goals as goal

pub returns-then-line-lines : goal.returns-then-line-lines
returns-then-line-lines c =
    let a = c.args in
    let ends = ends_ok a.table.now a.line a.counts _ (get_or_default a.table.now a.line _ fresh_tally c.if-line-lines.true) _ c.in_ok-table.ensures.answer in
    record { value = ends.0; table_after = ends.1; refused = tt; case = tt }

pub returns-in_err-table : goal.returns-in_err-table
returns-in_err-table c =
    let a = c.args in
    let e : c.from_residual.result ≡ Err c.in_err-table.field-0.0 = search rules in
    let ends = ends_err a.table.now a.line a.counts _ (get_or_default a.table.now a.line _ fresh_tally c.if-line-lines.true) _ c.in_err-table.ensures.answer in
    rw e (record { value = ends.0; table_after = ends.1; refused = c.in_err-table.ensures.refused; case = c.in_err-table.ensures.case })

pub returns-then-counts-ne0 : goal.returns-then-counts-ne0
returns-then-counts-ne0 c =
    let ends = ends_given c.args.table.now c.args.line c.args.counts c.if-counts-ne0.true in
    record { value = ends.0; table_after = ends.1; refused = c.if-counts-ne0.true; case = (refl, c.if-counts-ne0.true) }

pub returns : goal.returns
returns c =
    let ends = ends_past c.args.table.now c.args.line c.args.counts (omega arith) c.if-line-lines.false in
    record { value = ends.0; table_after = ends.1; refused = λ z. omega arith; case = omega arith }
