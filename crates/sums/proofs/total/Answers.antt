-- `sums::total`: octets are totalled by their sum.
use Rattle.std.proofs.Common.{◌≡◌, ◌+◌, ℕ, sum, rules, arith, sym, ap, ◌∙◌}
use Rattle.sums.specs.Total.{reduced}
use Rattle.sums.proofs.Totals.{total_of}
use Rattle.sums.proofs.total.Goals as goal

pub returns : goal.returns
returns c =
    let xs = c.args.octets.now in
    let e : c.sum.result ≡ sum xs = search rules in
    λ s h. total_of xs (λ j. omega (arith, c.type_inv.octets j)) s h ∙ ap (λ (t : ℕ). reduced (s + t)) (sym e)
