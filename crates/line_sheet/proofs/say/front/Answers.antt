-- `line_sheet::say::front`: the first octets, or all of them. Assumes nothing.
use Rattle.std.proofs.Common.{◌≤◌, sym, arith, length, length-take-le, take_all}
use Rattle.line_sheet.proofs.say.front.Goals as goal

pub slice_bounds-result-end : goal.slice_bounds-result-end
slice_bounds-result-end c =
    let s = c.args in
    let h : s.n ≤ length s.octets.now = omega (arith, c.if-n-octets.true) in
    sym (length-take-le s.n s.octets.now h)

pub returns : goal.returns
returns c =
    let s = c.args in
    let h : length s.octets.now ≤ s.n = omega (arith, c.if-n-octets.false) in
    sym (take_all s.n s.octets.now h)
