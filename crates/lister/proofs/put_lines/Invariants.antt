-- `lister::put_lines` meets its contract. The loop's invariant: what is left of the chunk gives what the whole gives, i octets on. Assumes nothing.
use Rattle.std.proofs.Common.{◌≡◌, ◌-◌, ◌≤◌, length, drop}
use Rattle.deframer.proofs.TextTurns.{onwards}
use Rattle.line.specs.Gather.{later}
use Rattle.lister.proofs.Rules.{rule_rules}
use Rattle.lister.specs.Entries.{source_rules, rule_of, line_of, counted}
use Rattle.lister.specs.Lines.{gathered}
use Rattle.listing.specs.Line.{max_line}
use Rattle.lister.proofs.put_lines.Given as goal

abbrev pub invariant-loop-at : goal.invariant-loop-at
invariant-loop-at l =
    (l.i ≤ length l.chunk)
    × (length l.buffer ≡ length l.initial.buffer)
    × (length l.out ≡ length l.initial.out)
    × (gathered l.l l.chunk l.initial.buffer l.initial.out
    ≡ later l.i (onwards (line_of l.l.kiss) counted max_line (rule_of l.l.kiss l.l.level) (source_rules l.l.kiss l.l.level) (rule_rules l.l.kiss l.l.level) l.state (drop l.i l.chunk) l.buffer (record { tally = l.n; out = l.out; behind = l.at })))

abbrev pub decreases-loop-at : goal.decreases-loop-at
decreases-loop-at l = length l.chunk - l.i
