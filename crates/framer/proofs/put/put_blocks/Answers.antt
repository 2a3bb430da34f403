use Rattle.std.proofs.Common.{length, sym, ap, ◌∙◌, arith, length-append}
use lib.Seq.{sets}
use Rattle.escapes.specs.Escapes.{writing_of}
use Rattle.framer.proofs.Parts.{length_escaped_parts, escaped_more, escaped_none}
use Rattle.framer.proofs.put.put_blocks.Goals as goal

pub put_block-to-requires : goal.put_block-to-requires
put_block-to-requires c =
    let l = c.loop-i.invariant in
    let s = c.in-Some.ensures.steps.0 in
    record {
      octets_len = s.1.1 ∙ l.1;
      octets_in_bounds = omega (arith, length_escaped_parts (writing_of c.args.e) c.loop-i.i-iterator.iter.rest.now c.in-Some.block.now c.next.new.self.iter.rest.now s.1.0, l.0, l.3, c.requires.octets_in_bounds);
    }

pub loop-i-preserved : goal.loop-i-preserved
loop-i-preserved c =
    let l = c.loop-i.invariant in
    let s = c.in-Some.ensures.steps.0 in
    let p = c.put_block-to in (
      p.auto.out ∙ l.0,
      s.0 ∙ l.1,
      omega (arith, ap length s.1.0 ∙ length-append c.in-Some.block.now c.next.new.self.iter.rest.now, s.1.1, l.1, l.2),
      omega (arith, length_escaped_parts (writing_of c.args.e) c.loop-i.i-iterator.iter.rest.now c.in-Some.block.now c.next.new.self.iter.rest.now s.1.0, l.3, p.ensures.value),
      escaped_more (writing_of c.args.e) _ _ _ s.1.0 _ _ _ _ p.ensures.out_after p.ensures.value ∙ l.4,
    )

pub returns : goal.returns
returns c =
    let l = c.loop-i.invariant in
    let s = c.in-None.ensures.steps.0 in
    let e = escaped_none (writing_of c.args.e) c.loop-i.i-iterator.iter.rest.now (omega (arith, s.1.0, l.1, l.2)) in
    record {
      value = omega (arith, ap length e, l.3);
      out_after = sym (ap (sets c.loop-i.out c.loop-i.to) e) ∙ l.4;
    }
