use Rattle.std.proofs.Common.{◌≡◌, Bool, true, false, cond, refl, ◌∙◌, arith}
use mir.Val.{bool_byte}
use Rattle.deframer.proofs.Ahead.{pair_within, pair_turn}
use Rattle.line.proofs.Scan.{after_zero}
use Rattle.deframer.proofs.pairs.take_pairs.Goals as goal

one_or_none : (b : Bool) → bool_byte b ≡ cond b 1 0
one_or_none true = refl
one_or_none false = refl

pub loop-i-init : goal.loop-i-init
loop-i-init c = (omega arith, refl, after_zero _)

pub loop-i-preserved : goal.loop-i-preserved
loop-i-preserved c =
    let a = c.args in
    let l = c.loop-i in
    let t = c.took-t in (
      pair_within a.rule a.chunk.now l.s l.i c.loop-i-test.true _ c.is_escape-pending.ensures _ (c.from-i.ensures ∙ one_or_none _),
      t.auto.buffer ∙ l.invariant.1,
      l.invariant.2
          ∙ pair_turn a.rule a.chunk.now l.s l.i c.loop-i-test.true _ c.is_escape-pending.ensures l.buffer _ _ _ _ (c.if-goes.ensures refl) t.ensures.value t.ensures.buffer_after refl (c.from-i.ensures ∙ one_or_none _),
    )
