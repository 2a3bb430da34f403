use Rattle.std.proofs.Common.{ℕ, ◌+◌, sym, ap, ◌∙◌, arith}
use Rattle.escapes.specs.Escapes.{writing_of}
use Rattle.framer.proofs.Parts.{split_length, split_into, length_as_is, into_as_is}
use Rattle.framer.proofs.put.put_rest.Goals as goal

pub put_plain-mid-requires : goal.put_plain-mid-requires
put_plain-mid-requires c =
    let n = split_length (writing_of c.args.e) 4 c.args.octets.now c.split_at.result.0.now c.split_at.result.1.now c.split_at.ensures.front c.split_at.ensures.back in
    omega (arith, n, length_as_is (writing_of c.args.e) c.split_at.result.0.now (sym c.if-all_plain.ensures), c.requires)

pub put_each-requires-then-all_plain : goal.put_each-requires-then-all_plain
put_each-requires-then-all_plain c =
    let n = split_length (writing_of c.args.e) 4 c.args.octets.now c.split_at.result.0.now c.split_at.result.1.now c.split_at.ensures.front c.split_at.ensures.back in
    omega (arith, n, length_as_is (writing_of c.args.e) c.split_at.result.0.now (sym c.if-all_plain.ensures), c.put_plain-mid.ensures.value, c.put_plain-mid.auto.out, c.requires)

pub returns-then-all_plain : goal.returns-then-all_plain
returns-then-all_plain c =
    let w = writing_of c.args.e in
    let s = c.split_at.ensures in
    let p = c.put_plain-mid.ensures in
    let q = c.put_each-then-all_plain.ensures in
    let k = length_as_is w c.split_at.result.0.now (sym c.if-all_plain.ensures) in
    let to = p.value ∙ ap (λ (n : ℕ). c.args.at + n) (sym k) in
    record {
      value = omega (arith, split_length w 4 c.args.octets.now c.split_at.result.0.now c.split_at.result.1.now s.front s.back, to, q.value);
      out_after = split_into w 4 _ _ _ s.front s.back _ _ _ _ _ (p.out_after ∙ into_as_is w c.split_at.result.0.now _ _ (sym c.if-all_plain.ensures)) to q.out_after;
    }
