-- `text::spell` meets its contract. Assumes nothing.
use Rattle.std.proofs.Common.{ap, arith, drop_of_length-le}
use Rattle.text.proofs.Text.{spell_more, spell_last, spell_end}
use Rattle.text.specs.Text.{decimal_onto, max_digits, decimal}
use Rattle.text.proofs.spell.Goals as goal

pub loop-i-init : goal.loop-i-init
unfolding decimal
loop-i-init c = (omega arith, ap (decimal_onto max_digits c.args.n) (drop_of_length-le c.args.digits.now {i = max_digits} (omega (arith, c.requires))))

pub returns-then-left-eq0 : goal.returns-then-left-eq0
returns-then-left-eq0 c =
    let l = c.loop-i in
    (omega arith, spell_last _ l.left l.i l.digits c.loop-i-test.true l.invariant.0 (omega (arith, c.requires)) l.invariant.1 c.if-left-eq0.true)

pub loop-i-preserved : goal.loop-i-preserved
loop-i-preserved c =
    let l = c.loop-i in
    (omega arith, spell_more _ l.left l.i l.digits c.loop-i-test.true l.invariant.0 (omega (arith, c.requires)) l.invariant.1 c.if-left-eq0.false)

pub returns : goal.returns
returns c = let l = c.loop-i in (omega arith, spell_end _ l.left l.i l.digits c.loop-i-test.false l.invariant.1)
