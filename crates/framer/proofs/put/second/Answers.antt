-- The tests one upon another.
use Rattle.std.proofs.Common.{◌≡◌, ℕ, Bool, true, false, cond, ◌&&◌, ◌||◌, eqb, refl, ap, ◌∙◌, arith}
use borrow.Author.Tests.{eq-eqb, ne_eqb}
use Rattle.escapes.specs.Escapes.{is_escaped, behind}
use Rattle.framer.proofs.put.second.Goals as goal
use Rattle.framer.proofs.put.second.Goals.{then-e-x, else-e-x, then-e-x-2, else-e-x-2, then-x-e, else-x-e}

-- over the answers to the tests: flag, escape, whether others are escaped, third, fourth
picked : (f e o t q : Bool) (bf be bt bq k : ℕ)
    → cond f bf (cond e be (cond (o && t) bt (cond (o && q) bq k))) ≡ cond (f || (e || (o && (t || q)))) (cond f bf (cond e be (cond t bt bq))) k
picked true e o t q bf be bt bq k = refl
picked false true o t q bf be bt bq k = refl
picked false false false t q bf be bt bq k = refl
picked false false true true q bf be bt bq k = refl
picked false false true false true bf be bt bq k = refl
picked false false true false false bf be bt bq k = refl

pub returns-then-x-e-2 : goal.returns-then-x-e-2
unfolding is_escaped behind
returns-then-x-e-2 c = rw (eq-eqb _ _ c.if-x-e-2.true)

pub returns-else-x-e-2 : goal.returns-else-x-e-2
unfolding is_escaped behind
returns-else-x-e-2 c =
    let e = c.args.e in
    let x = c.args.x in
    let d : c.if-e-x.d ≡ cond (e.others && eqb x e.fourth) e.behind_fourth c.args.kept = elim c.if-e-x.branch [ then-e-x w ↦ grind arith | else-e-x w ↦ grind arith ] in
    let t : c.if-e-x-2.c ≡ cond (e.others && eqb x e.third) e.behind_third c.if-e-x.d = elim c.if-e-x-2.branch [ then-e-x-2 w ↦ grind arith | else-e-x-2 w ↦ grind arith ] in
    let b : c.if-x-e.b ≡ cond (eqb x e.escape) e.behind_escape c.if-e-x-2.c = elim c.if-x-e.branch [ then-x-e w ↦ grind arith | else-x-e w ↦ grind arith ] in
    b
    ∙ ap (λ (z : ℕ). cond (eqb x e.escape) e.behind_escape z) (t ∙ ap (λ (z : ℕ). cond (e.others && eqb x e.third) e.behind_third z) d)
    ∙ rw (ne_eqb _ _ c.if-x-e-2.false) (picked false (eqb x e.escape) e.others (eqb x e.third) (eqb x e.fourth) e.behind_flag _ _ _ c.args.kept)
