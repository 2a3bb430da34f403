-- `fraction::lowest` meets its contract: 0/1, or both numbers divided by a divisor that is not 0. Assumes nothing.
use Rattle.std.proofs.Common.{ℕ, ◌<◌, ◌≡◌, sym, arith}
use Rattle.fraction.proofs.Divisors.{gcd_some}
use Rattle.fraction.proofs.Terms.{lowest_of-none, lowest_of-some}
use Rattle.fraction.specs.Fraction.{gcd}
use Rattle.fraction.proofs.lowest.Goals as goal

pub returns-then-n-eq0 : goal.returns-then-n-eq0
returns-then-n-eq0 c = sym (lowest_of-none c.args.n c.args.d c.if-n-eq0.true)

-- the divisor of any number but 0
divides : (n d g : ℕ) → (n ≡ 0 → ⊥) → g ≡ gcd n d → 0 < g
divides n d g h e = omega (arith, gcd_some n d (omega arith))

pub nonzero_div-result : goal.nonzero_div-result
nonzero_div-result c = divides _ _ _ c.if-n-eq0.false c.gcd-g.ensures

pub nonzero_div-result-2 : goal.nonzero_div-result-2
nonzero_div-result-2 c = divides _ _ _ c.if-n-eq0.false c.gcd-g.ensures

pub returns : goal.returns
returns c = let a = c.args in sym (lowest_of-some a.n a.d c.gcd-g.result c.if-n-eq0.false c.gcd-g.ensures)
