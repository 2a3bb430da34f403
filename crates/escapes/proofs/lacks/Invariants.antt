-- Those before octet i and those left give all.
use Rattle.std.proofs.Common.{◌≡◌, false, cond, eqb, drop}
use Rattle.common.specs.Plain.{plain}
use Rattle.escapes.proofs.lacks.Given as goal

abbrev pub invariant-loop-x : goal.invariant-loop-x
invariant-loop-x l = cond l.so_far (plain (λ x. eqb x l.y) (drop l.x-index l.octets)) false ≡ plain (λ x. eqb x l.y) l.octets
