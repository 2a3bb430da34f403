-- `sheet_counter::count_reports` meets its contract. The loop's invariant: what is left of the chunk gives what the whole gives, i octets on.
-- Assumes nothing.
use Rattle.std.proofs.Common.{ℕ, ◌-◌, ◌≤◌, ◌≡◌, length, drop}
use Rattle.deframer.proofs.Turns.{onwards}
use Rattle.deframer.specs.Rule.{rules_of}
use Rattle.framing.specs.Closing.{closing}
use Rattle.line.specs.Gather.{later}
use Rattle.qaft_rules.specs.Rules.{rules}
use Rattle.qaft.specs.Limits.{sum_kind}
use Rattle.sheet_counter.specs.Count.{always, with_report, gathered_from}
use Rattle.sheet_counter.proofs.count_reports.Given as goal

-- at whichever level the rule is that of its rules
abbrev pub invariant-loop-i : goal.invariant-loop-i
invariant-loop-i l =
    (l.i ≤ length l.chunk)
    × (length l.buffer ≡ length l.initial.buffer)
    × ((level : ℕ) (e : rules_of l.rule ≡ closing (rules level sum_kind)) → gathered_from level l.initial.state l.chunk l.initial.buffer l.initial.found ≡ later l.i (onwards with_report always l.rule (rules level sum_kind) e l.state (drop l.i l.chunk) l.buffer l.found))

abbrev pub decreases-loop-i : goal.decreases-loop-i
decreases-loop-i l = length l.chunk - l.i
