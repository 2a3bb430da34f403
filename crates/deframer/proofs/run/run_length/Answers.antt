use Rattle.std.proofs.Common.{◌≤◌, length, take, arith, length-take-le}
use Rattle.common.proofs.Plain.{plain_length-within}
use Rattle.deframer.proofs.Runs.{run_found_within}
use Rattle.escapes.specs.Escapes.{is_escaped}
use Rattle.deframer.proofs.run.run_length.Goals as goal

pub returns : goal.returns
returns c =
    let r = c.args.rule in
    let s = c.args.s in
    let xs = c.args.octets.now in
    let k = c.min.result in
    let e = c.plain_length.ensures in
    let h : k ≤ length xs = omega (arith, c.min.ensures) in
    let w = plain_length-within (is_escaped r.escapes) (take k xs) in
    let l = length-take-le k xs h in
    record {
      upper_bound = omega (arith, w, l, e, h);
      run = λ some.
          (run_found_within r s (grind (arith, c.if-not-s.false)) c.if-s.false xs c.plain_length.result k h
          (omega (arith, some, w, l, e, c.min.ensures, c.if-cap-s.false, c.from-cap.ensures)) e).1 some;
    }
