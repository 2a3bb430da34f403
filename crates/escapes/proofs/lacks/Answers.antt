use Rattle.std.proofs.Common.{ℕ, ◌+◌, Bool, false, cond, eqb, get_or, drop, sym, ap, ◌∙◌, arith}
use Rattle.common.proofs.Plain.{plain_next, plain_end}
use Rattle.common.specs.Plain.{plain}
use Rattle.escapes.proofs.Several.{and_not}
use Rattle.escapes.proofs.lacks.Goals as goal

pub loop-x-preserved : goal.loop-x-preserved
loop-x-preserved c =
    let l = c.loop-x in
    let xs = c.args.octets.now in
    let special : ℕ → Bool = λ x. eqb x c.args.y in
    ap (λ (b : Bool). cond b (plain special (drop (l.x-index + 1) xs)) false) (and_not l.so_far (eqb (get_or xs l.x-index 0) c.args.y))
    ∙ sym (plain_next special xs l.x-index l.so_far (omega arith)) ∙ l.invariant

pub returns : goal.returns
returns c =
    let l = c.loop-x in
    sym (plain_end (λ x. eqb x c.args.y) c.args.octets.now l.x-index l.so_far (omega arith)) ∙ l.invariant
