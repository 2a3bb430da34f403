-- Each return by the tests on its way.
use Rattle.std.proofs.Common.{ℕ, sym, ap, ◌∙◌}
use borrow.Author.Tests.{eq-eqb, ne_eqb}
use Rattle.deframer.proofs.Ways.{in_segment-skipped, in_segment-partner, in_segment-escape, in_segment-plain}
use Rattle.deframer.specs.Scan.{awaiting, stored}
use Rattle.deframer.proofs.Rule.in_segment.Goals as goal

pub returns-then-skips : goal.returns-then-skips
returns-then-skips c = in_segment-skipped _ _ _ (sym c.if-skips.ensures)

pub returns-then-s : goal.returns-then-s
returns-then-s c =
    let a = c.args in
    c.stored.ensures
    ∙ ap (λ (y : ℕ). stored a.self a.s c.bad_after.result y) c.partner.ensures
    ∙ in_segment-partner a.self a.s a.x (sym c.if-skips.ensures) c.if-s.true _ c.bad_after.ensures

pub returns-then-x-self : goal.returns-then-x-self
unfolding awaiting
returns-then-x-self c = in_segment-escape _ _ _ (sym c.if-skips.ensures) c.if-s.false (eq-eqb _ _ c.if-x-self.true)

pub returns : goal.returns
returns c = c.stored-2.ensures ∙ in_segment-plain _ _ _ (sym c.if-skips.ensures) c.if-s.false (ne_eqb _ _ c.if-x-self.false)
