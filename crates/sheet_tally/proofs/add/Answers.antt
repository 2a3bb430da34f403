-- `sheet_tally::add`: a sum that does not fit, one more that does, and the record of them all.
use Rattle.std.proofs.Common.{◌≡◌, ◌+◌, ◌≤◌, length, get_or, sym, ◌∙◌, arith, rules, length-set}
use Rattle.sheet.specs.Limits.{counts_long, max_count}
use Rattle.sheet_tally.proofs.Sums.{fit_stops, fit_goes, sums_go, fit_ends, sums_end, sums_whole}
use Rattle.sheet_tally.proofs.Judging.{added_refused, added_all_lem}
use Rattle.sheet_tally.proofs.add.Goals as goal

pub returns-then-n-more-clause-answer : goal.returns-then-n-more-clause-answer
returns-then-n-more-clause-answer c =
    let l = c.loop-i in
    let s = c.args in
    added_refused s.t s.counts
    (sym l.invariant.0 ∙ fit_stops s.t.counts s.counts.counts l.i (search rules) (search rules) (omega (arith, c.from-n.ensures, c.if-n-more.true)))

pub loop-i-preserved : goal.loop-i-preserved
loop-i-preserved c =
    let l = c.loop-i in
    let s = c.args in
    let n = c.from-n.ensures in
    let sum : get_or s.t.counts l.i 0 + get_or s.counts.counts l.i 0 ≤ max_count = omega (arith, n, c.if-n-more.false) in (
      fit_goes s.t.counts s.counts.counts l.i (search rules) (search rules) sum ∙ l.invariant.0,
      sums_go s.t.counts s.counts.counts l.i (search rules) (search rules) l.new _ (omega (arith, n)) ∙ l.invariant.1,
      length-set l.new l.i _ ∙ l.invariant.2,
    )

pub returns-clause-answer : goal.returns-clause-answer
returns-clause-answer c =
    let l = c.loop-i in
    let s = c.args in
    let long : length s.t.counts ≡ counts_long = search rules in
    let more : length s.counts.counts ≡ counts_long = search rules in
    let past : length s.t.counts ≤ l.i = omega (arith, long, c.loop-i-test.false) in
    added_all_lem s.t s.counts l.new
    (sym l.invariant.0 ∙ fit_ends s.t.counts s.counts.counts l.i past)
    (sym (sums_end s.t.counts s.counts.counts l.i past l.new) ∙ l.invariant.1 ∙ sums_whole s.t.counts s.counts.counts (long ∙ sym more))
