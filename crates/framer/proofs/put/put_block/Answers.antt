use Rattle.std.proofs.Common.{ap, ◌∙◌, sym, arith}
use lib.Seq.{sets}
use Rattle.escapes.specs.Escapes.{writing_of}
use Rattle.framer.proofs.Parts.{length_as_is, into_as_is}
use Rattle.framer.proofs.put.put_block.Goals as goal

pub put_plain-requires : goal.put_plain-requires
put_plain-requires c = omega (arith, length_as_is (writing_of c.args.e) c.args.octets.now (sym c.if-all_plain.ensures), c.requires.octets_in_bounds)

pub returns-then-all_plain : goal.returns-then-all_plain
returns-then-all_plain c =
    let p = c.put_plain.ensures in
    let plain = sym c.if-all_plain.ensures in record {
      value = omega (arith, p.value, length_as_is (writing_of c.args.e) c.args.octets.now plain);
      out_after = p.out_after ∙ ap (sets c.args.out.now c.args.at) c.eight.ensures ∙ into_as_is (writing_of c.args.e) c.args.octets.now _ _ plain;
    }
