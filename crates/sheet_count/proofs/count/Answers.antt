-- `sheet_count::count` meets its contract: a capture in one chunk, and the refusal. Assumes nothing.
use Rattle.std.proofs.Common.{ℕ, ◌≤◌, ◌∙◌, ap, arith, length, replicate}
use lib.ListN.{length-replicate}
use Rattle.qaft.specs.Limits.{max_segment}
use Rattle.sheet_count.proofs.Whole.{count_made, count_refused}
use Rattle.sheet_count.specs.Count.{refused}
use Rattle.sheet_count.proofs.count.Goals as goal

-- the buffer has room for a segment
room : max_segment ≤ length (replicate {A = ℕ} max_segment 0)
room = omega (arith, length-replicate {A = ℕ} max_segment 0)

pub returns-in-Ok : goal.returns-in-Ok
returns-in-Ok c = c.counts.ensures ∙ count_made _ _ _ room _ c.new.ensures _ c.in-Ok.ensures.value

pub returns-in-Err : goal.returns-in-Err
returns-in-Err c = c.refused.ensures ∙ ap refused c.number.ensures ∙ count_refused _ _ _ room _ c.new.ensures _ c.in-Err.ensures.value
