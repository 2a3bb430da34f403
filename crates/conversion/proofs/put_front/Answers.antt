-- `conversion::put_front` meets its contract: there is room. Assumes nothing.
use Rattle.std.proofs.Common.{ℕ, ◌+◌, ◌≤◌, sym, ap, ◌∙◌, arith, length, take, length-take-le}
use Rattle.octets.proofs.Putting.{into_fits, end_fits}
use Rattle.conversion.proofs.put_front.Goals as goal

pub slice_bounds-put-end : goal.slice_bounds-put-end
slice_bounds-put-end c =
    let p = c in
    sym (length-take-le p.args.n p.args.octets.now p.requires.0)

pub returns : goal.returns
returns c =
    let p = c in
    let a = p.args in
    let w = c.put.ensures in
    let n = length-take-le a.n a.octets.now p.requires.0 in
    let room : a.at + length (take a.n a.octets.now) ≤ length a.out.now = omega (arith, n, p.requires.1) in
    record {
      value = w.value ∙ end_fits (take a.n a.octets.now) a.out.now a.at room ∙ ap (λ (k : ℕ). a.at + k) n;
      out_after = w.out_after ∙ into_fits (take a.n a.octets.now) a.out.now a.at room;
    }
