-- Kind by kind.
use Rattle.std.proofs.Common.{sym, ◌∙◌, arith}
use borrow.Author.Tests.{eq-eqb, ne_eqb}
use Rattle.deframer.proofs.Checks.{added_all-sum, added_all-register, added_all-first}
use Rattle.octets.proofs.Putting.{into_fits, sum_fits}
use Rattle.deframer.proofs.check.put_run.Goals as goal

pub returns-then-kind-eq-SUM-clause-value : goal.returns-then-kind-eq-SUM-clause-value
returns-then-kind-eq-SUM-clause-value c =
    let a = c.args in
    let e = added_all-sum a.kind (eq-eqb _ _ c.if-kind-eq-SUM.true) a.octets.now a.count a.check c.requires.octets_nonzero in
    omega (arith, e, c.put_sum-sum.ensures.value, sum_fits a.octets.now a.buffer.now a.count c.requires.octets_in_bounds)

pub returns-then-kind-eq-SUM-clause-buffer_after : goal.returns-then-kind-eq-SUM-clause-buffer_after
returns-then-kind-eq-SUM-clause-buffer_after c = c.put_sum-sum.ensures.out_after ∙ into_fits _ _ _ c.requires.octets_in_bounds

pub returns-then-kind-eq-REGISTER-clause-value : goal.returns-then-kind-eq-REGISTER-clause-value
returns-then-kind-eq-REGISTER-clause-value c =
    let a = c.args in
    c.feed.ensures ∙ sym (added_all-register a.kind (ne_eqb _ _ c.if-kind-eq-SUM.false) (eq-eqb _ _ c.if-kind-eq-REGISTER.true) a.octets.now a.count a.check)

pub returns-then-kind-eq-REGISTER-clause-buffer_after : goal.returns-then-kind-eq-REGISTER-clause-buffer_after
returns-then-kind-eq-REGISTER-clause-buffer_after c = c.put.ensures.out_after ∙ into_fits _ _ _ c.requires.octets_in_bounds

pub returns-clause-value : goal.returns-clause-value
returns-clause-value c =
    let a = c.args in
    c.added.ensures ∙ sym (added_all-first a.kind (ne_eqb _ _ c.if-kind-eq-SUM.false) (ne_eqb _ _ c.if-kind-eq-REGISTER.false) a.octets.now a.count a.check c.requires.octets_nonzero)

pub returns-clause-buffer_after : goal.returns-clause-buffer_after
returns-clause-buffer_after c = c.put.ensures.out_after ∙ into_fits _ _ _ c.requires.octets_in_bounds
