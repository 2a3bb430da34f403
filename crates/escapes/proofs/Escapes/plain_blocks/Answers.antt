use Rattle.std.proofs.Common.{◌∙◌}
use Rattle.escapes.specs.Escapes.{is_escaped}
use Rattle.escapes.proofs.Several.{block_more}
use Rattle.escapes.proofs.Escapes.plain_blocks.Goals as goal

pub loop-block-preserved : goal.loop-block-preserved
loop-block-preserved c =
    let l = c.loop-block.invariant in
    let s = c.in-Some.ensures.steps in
    let m = block_more (is_escaped c.args.self) c.loop-block.n 16 c.args.octets.now _ _ _ l.1 l.2 l.3 s.1.0 (s.1.1 ∙ l.0) c.if-not-block_plain.ensures in
    (s.0 ∙ l.0, m.0, m.1, m.2)
