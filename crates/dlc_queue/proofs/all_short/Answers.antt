-- `all_short`: what `all` answers of the lengths. Assumes nothing.
use Rattle.std.proofs.Common.{rules, ◌∙◌}
use borrow.Author.Tests.{tests}
use Rattle.std.proofs.lemmas.Iterator.{YieldsList-from_slice}
use Rattle.std.proofs.lemmas.Iterator.Search.{all_from_yields_List}
use lib.Dec.{leb}
use Rattle.dlc_packet.specs.Packet.{max_payload}
use Rattle.dlc_queue.specs.declared.Payload.{Payload}
use Rattle.dlc_queue.proofs.Short.{short_all}
use Rattle.dlc_queue.proofs.all_short.Goals as goal

pub returns : goal.returns
returns c =
    all_from_yields_List (λ (p : Payload). leb p.len max_payload) _ _ _ c.all.ensures.ran (YieldsList-from_slice c.args.payloads.now cc) (λ x b q k. search (rules, tests))
    ∙ short_all c.args.payloads.now
