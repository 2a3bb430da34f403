use Rattle.std.proofs.Common.{ap, sym, ◌∙◌, arith, length, length-append}
use lib.Seq.{sets}
use Rattle.framing.proofs.Escaping.{escaped_end, escaped_next}
use Rattle.escapes.specs.Escapes.{writing_of}
use Rattle.framer.proofs.Parts.{sets_more}
use Rattle.framer.proofs.put.put_each.Goals as goal

pub put_octet-to-requires : goal.put_octet-to-requires
put_octet-to-requires c =
    let e = escaped_next (writing_of c.args.e) c.args.octets.now c.loop-x.x-index c.loop-x-test.true in
    omega (arith, simp length-append at (ap length e), c.loop-x.invariant.0, c.loop-x.invariant.1, c.requires)

pub loop-x-preserved : goal.loop-x-preserved
loop-x-preserved c =
    let l = c.loop-x in
    let p = c.put_octet-to in
    let e = escaped_next (writing_of c.args.e) c.args.octets.now l.x-index c.loop-x-test.true in (
      p.auto.out ∙ l.invariant.0,
      omega (arith, simp length-append at (ap length e), l.invariant.1, p.ensures.value),
      sets_more _ _ _ _ _ _ _ e p.ensures.out_after p.ensures.value ∙ l.invariant.2,
    )

pub returns : goal.returns
returns c =
    let l = c.loop-x in
    let e = escaped_end (writing_of c.args.e) c.args.octets.now l.x-index c.loop-x-test.false in
    record {
      value = omega (arith, ap length e, l.invariant.1);
      out_after = sym (ap (sets l.out l.to) e) ∙ l.invariant.2;
    }
