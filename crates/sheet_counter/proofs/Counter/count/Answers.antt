-- `Counter::count` meets its contract: a chunk that is counted. Assumes nothing.
use Rattle.sheet_counter.proofs.Calls.{count_made}
use Rattle.sheet_counter.proofs.Counter.count.Goals as goal

pub returns : goal.returns
returns c =
    let call = c in
    let both = count_made _ _ _ call.if-self-gt-MAX_LEVEL.false call.if-buffer-lt-MAX_SEGMENT.false _ _ call.count_reports-progress.ensures.value call.count_reports-progress.ensures.buffer_after _ c.add.ensures in
    record { value = both.0; buffer_after = both.1 }
