-- `text::spell`: what is left to spell, before the digits that are there, gives the number. Assumes nothing.
use Rattle.std.proofs.Common.{◌≤◌, ◌≡◌, drop}
use Rattle.text.specs.Text.{decimal_onto, max_digits, decimal}
use Rattle.text.proofs.spell.Given as goal

abbrev pub invariant-loop-i : goal.invariant-loop-i
invariant-loop-i l = (l.i ≤ max_digits) × (decimal_onto l.i l.left (drop l.i l.digits) ≡ decimal l.n)
