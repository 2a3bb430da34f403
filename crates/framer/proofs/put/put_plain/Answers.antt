use Rattle.std.proofs.Common.{arith}
use Rattle.framer.proofs.Parts.{put_mid_sets}
use Rattle.framer.proofs.put.put_plain.Goals as goal

pub returns-clause-out_after : goal.returns-clause-out_after
returns-clause-out_after c = put_mid_sets _ _ _ _ _ c.requires c.copy_from_slice.ensures.after (omega arith)
