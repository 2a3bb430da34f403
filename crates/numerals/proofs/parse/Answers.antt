-- `numerals::parse` meets its contract. Assumes nothing.
use Rattle.std.proofs.Common.{eqb-true, sym, ◌∙◌, arith}
use Rattle.numerals.proofs.Typing.{typed_empty, typed_some, typed_other, typed_over, typed_next, typed_end}
use Rattle.numerals.proofs.parse.Goals as goal

pub returns-then-is_empty : goal.returns-then-is_empty
returns-then-is_empty c = sym (typed_empty c.args.word.now (eqb-true _ _ (sym c.is_empty.ensures ∙ c.if-is_empty.true)))

pub loop-octet-init : goal.loop-octet-init
loop-octet-init c = (omega arith, typed_some c.args.word.now (sym c.is_empty.ensures ∙ c.if-is_empty.false))

pub returns-then-not-is_ascii_digit : goal.returns-then-not-is_ascii_digit
returns-then-not-is_ascii_digit c =
    let l = c.loop-octet in
    sym (typed_other c.args.word.now l.n l.octet-index c.loop-octet-test.true c.if-not-is_ascii_digit.ensures.cases) ∙ l.invariant.1

pub returns-in_err-checked_mul : goal.returns-in_err-checked_mul
returns-in_err-checked_mul c =
    let l = c.loop-octet in
    c.from_residual.ensures ∙ sym (typed_over c.args.word.now l.n l.octet-index c.loop-octet-test.true c.if-not-is_ascii_digit.ensures.cases (omega (arith, c.in_err-checked_mul.ensures))) ∙ l.invariant.1

pub returns-in_err-n : goal.returns-in_err-n
returns-in_err-n c =
    let l = c.loop-octet in
    c.from_residual-in_err-n.ensures ∙ sym (typed_over c.args.word.now l.n l.octet-index c.loop-octet-test.true c.if-not-is_ascii_digit.ensures.cases (omega (arith, c.in_err-n.ensures, c.in_ok-checked_mul.ensures, c.from-digit.ensures))) ∙ l.invariant.1

pub loop-octet-preserved : goal.loop-octet-preserved
loop-octet-preserved c =
    let l = c.loop-octet in (
      omega (arith, c.in_ok-n.ensures),
      typed_next c.args.word.now l.n l.octet-index c.loop-octet-test.true c.in_ok-n.n c.if-not-is_ascii_digit.ensures.cases (omega (arith, c.in_ok-n.ensures, c.in_ok-checked_mul.ensures, c.from-digit.ensures)) ∙ l.invariant.1,
    )

pub returns : goal.returns
returns c = let l = c.loop-octet in sym (typed_end c.args.word.now l.n l.octet-index c.loop-octet-test.false l.invariant.0) ∙ l.invariant.1
