-- `Found::with` meets its contract: each count, and the number of the last DATA. Assumes nothing.
use Rattle.sheet_found.proofs.Finding.{with_made}
use Rattle.sheet_found.proofs.Found.with.Goals as goal

pub returns : goal.returns
returns c =
    with_made _ _ _ _ c.number-n.ensures c.kind_of-kind.ensures _ c.more.ensures c.more-2.ensures c.more-3.ensures c.more-4.ensures c.more-5.ensures c.more-6.ensures
    _ c.is_data.ensures c.more-7.ensures _ c.is_dack.ensures c.more-8.ensures _ c.is_numbered.ensures c.more-9.ensures c.number_after.ensures
