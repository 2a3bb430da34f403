-- `fraction::gcd` meets its contract. The loop's invariant: the two numbers that are left have the divisor of the two given. Assumes nothing.
use Rattle.std.proofs.Common.{sym, ◌∙◌, mod-lt, arith}
use Rattle.fraction.proofs.Divisors.{gcd_next, gcd_end}
use Rattle.fraction.proofs.gcd.Goals as goal

pub loop-b-smaller : goal.loop-b-smaller
loop-b-smaller c = omega (arith, mod-lt c.loop-b.a {m = c.loop-b.b} (omega (arith, c.loop-b-test.true)))

pub loop-b-preserved : goal.loop-b-preserved
loop-b-preserved c = sym (gcd_next _ _ (omega (arith, c.loop-b-test.true))) ∙ c.loop-b.invariant

pub returns : goal.returns
returns c = sym (gcd_end _ _ (omega (arith, c.loop-b-test.false))) ∙ c.loop-b.invariant
