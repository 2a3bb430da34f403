-- `numerals::parse`: the digits that are left, behind the number so far, give the whole. Assumes nothing.
use Rattle.std.proofs.Common.{◌≡◌, ◌<◌, ◌^◌, drop}
use Rattle.numerals.specs.Number.{typed_from, typed_of}
use Rattle.numerals.proofs.parse.Given as goal

abbrev pub invariant-loop-octet : goal.invariant-loop-octet
invariant-loop-octet l = (l.n < 2 ^ 64) × (typed_from l.n (drop l.octet-index l.word) ≡ typed_of l.word)
