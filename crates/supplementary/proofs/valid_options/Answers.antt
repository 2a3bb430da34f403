-- `supplementary::valid_options`: the turns that stop, one that goes on, and the end.
use Rattle.std.proofs.Common.{◌-◌, length, sym, ◌∙◌, arith}
use Rattle.supplementary.proofs.Options.{options_end, option_third, value_short, value_passed}
use Rattle.supplementary.proofs.valid_options.Goals as goal

pub returns-then-callsigns-gt-MOST_CALLSIGNS : goal.returns-then-callsigns-gt-MOST_CALLSIGNS
returns-then-callsigns-gt-MOST_CALLSIGNS c =
    let l = c.loop-left in
    option_third l.callsigns _ (length l.left.now - 2) l.left.now _ l.invariant.so_far c.from-callsigns.ensures c.in-len2-up.len_at_least (omega arith) (omega arith)

pub returns-then-rest-size : goal.returns-then-rest-size
returns-then-rest-size c =
    let l = c.loop-left in
    value_short l.callsigns _ (length l.left.now - 2) l.left.now _ l.invariant.so_far c.from-callsigns.ensures c.in-len2-up.len_at_least (omega arith) (omega arith) c.from-size.result c.from-size.ensures (omega arith)

pub loop-left-preserved : goal.loop-left-preserved
loop-left-preserved c =
    let l = c.loop-left in
    record {
      few = omega arith;
      so_far = value_passed l.callsigns _ _ l.left.now _ l.invariant.so_far c.from-callsigns.ensures c.in-len2-up.len_at_least (omega arith) (omega arith) c.from-size.result c.from-size.ensures _ (omega arith) (omega arith);
    }

pub returns : goal.returns
returns c = c.is_empty.ensures ∙ sym (options_end c.loop-left.callsigns c.loop-left.left.now (omega arith)) ∙ c.loop-left.invariant.so_far
