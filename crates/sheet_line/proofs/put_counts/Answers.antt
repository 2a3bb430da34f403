-- `sheet_line::put_counts`: nothing yet, one count more, and all.
use Rattle.std.proofs.Common.{◌≡◌, length, refl, arith, rules}
use Rattle.sheet.specs.Limits.{counts_long}
use Rattle.sheet_line.specs.Line.{counts_text}
use Rattle.sheet_line.proofs.Counts.{counts_next}
use Rattle.sheet_line.proofs.put_counts.Goals as goal

pub loop-count-init : goal.loop-count-init
unfolding counts_text
loop-count-init c = record { behind = omega arith; octets = refl }

pub loop-count-preserved : goal.loop-count-preserved
loop-count-preserved c =
    let long : length c.args.tally.counts ≡ counts_long = search rules in
    let e₁ = c.put-a.ensures in
    let e₂ = c.put_decimal-to.ensures in
    counts_next c.args.tally.counts c.loop-count.count-index long (omega (arith, long, c.loop-count-test.true)) _ _ _ _ _ _ _ _ _ c.requires c.loop-count.invariant e₁.value e₁.out_after c.from.ensures e₂.value e₂.out_after
