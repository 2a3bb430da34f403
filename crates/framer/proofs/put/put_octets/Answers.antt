use Rattle.std.proofs.Common.{arith}
use Rattle.escapes.specs.Escapes.{writing_of}
use Rattle.framer.proofs.Parts.{split_length, split_into}
use Rattle.framer.proofs.put.put_octets.Goals as goal

pub put_blocks-mid-requires-clause-octets_in_bounds : goal.put_blocks-mid-requires-clause-octets_in_bounds
put_blocks-mid-requires-clause-octets_in_bounds c =
    omega (arith, split_length (writing_of c.args.e) _ _ _ _ c.split_at.ensures.front c.split_at.ensures.back, c.requires)

pub put_rest-requires : goal.put_rest-requires
put_rest-requires c =
    omega (arith, split_length (writing_of c.args.e) _ _ _ _ c.split_at.ensures.front c.split_at.ensures.back, c.put_blocks-mid.ensures.value, c.put_blocks-mid.auto.out, c.requires)

pub returns : goal.returns
returns c =
    let w = writing_of c.args.e in
    let s = c.split_at.ensures in
    let p = c.put_blocks-mid.ensures in
    let q = c.put_rest.ensures in
    record {
      value = omega (arith, split_length w _ _ _ _ s.front s.back, p.value, q.value);
      out_after = split_into w _ _ _ _ s.front s.back _ _ _ _ _ p.out_after p.value q.out_after;
    }
