-- `fresh_link`: an empty queue makes a fresh link. Assumes nothing.
use Rattle.std.proofs.Common.{ap, ◌∙◌}
use Rattle.dlc_queue.specs.declared.Queue.{Queue}
use Rattle.dlc.specs.View.{view}
use Rattle.dlc.proofs.Views.{fresh_with, view_fresh}
use Rattle.dlc.proofs.fresh_link.Goals as goal

pub returns : goal.returns
returns c =
    let n = c.args.edition in
    ap (λ (q : Queue). view (fresh_with n q)) c.new.ensures ∙ view_fresh n c.requires
