-- `fraction::gcd` meets its contract. The loop's invariant: the two numbers that are left have the divisor of the two given. Assumes nothing.
use Rattle.std.proofs.Common.{◌≡◌}
use Rattle.fraction.specs.Fraction.{gcd}
use Rattle.fraction.proofs.gcd.Given as goal

abbrev pub invariant-loop-b : goal.invariant-loop-b
invariant-loop-b l = gcd l.a l.b ≡ gcd l.n l.d

abbrev pub decreases-loop-b : goal.decreases-loop-b
decreases-loop-b l = l.b
