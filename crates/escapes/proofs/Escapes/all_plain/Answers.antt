use Rattle.std.proofs.Common.{◌≡◌, ℕ, Bool, cond, eqb, ap, ◌∙◌, arith}
use Rattle.common.specs.Plain.{plain}
use Rattle.escapes.proofs.Several.{plain_all}
use Rattle.escapes.proofs.Escapes.all_plain.Goals as goal
use Rattle.escapes.proofs.Escapes.all_plain.Goals.{then-self, else-self}

pub returns : goal.returns
returns c =
    let e = c.args.self in
    let lacking : ℕ → Bool = λ y. plain (λ x. eqb x y) c.args.octets.now in
    let both : (c.if-self.third.0 ≡ cond e.others e.third e.flag) × (c.if-self.third.1 ≡ cond e.others e.fourth e.escape) =
    elim c.if-self.branch [ then-self w ↦ (grind arith, grind arith) | else-self w ↦ (grind arith, grind arith) ] in
    plain_all e c.args.octets.now _ _ _ _ c.lacks-no_flag.ensures c.lacks-no_escape.ensures (c.lacks-no_third.ensures ∙ ap lacking both.0) (c.lacks-no_fourth.ensures ∙ ap lacking both.1)
