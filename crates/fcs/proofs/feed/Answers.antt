-- `fcs::feed`: whole eights, and what is left by the way that it takes.
use Rattle.std.proofs.Common.{◌≤◌, length, ap, ◌∙◌, arith}
use Rattle.fcs.specs.Fcs.{feed_all}
use Rattle.fcs.proofs.Last.{last_part}
use Rattle.fcs.proofs.feed.Goals as goal

pub returns : goal.returns
returns c =
    let s = c.split_at.ensures in
    let some : 8 ≤ length c.args.octets.now = grind (arith, c.if-is_empty.false, c.is_empty.ensures, s.front_len) in
    last_part c.args.register c.args.octets.now _ _ some (c.feed_eights-c.ensures ∙ ap (feed_all c.args.register) s.front) c.feed_last.ensures
