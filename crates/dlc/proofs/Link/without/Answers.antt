-- `Link::without`: what `remove`, `open_state` and `advanced` give makes the link that the table says. Assumes nothing.
use Rattle.std.proofs.Common.{ℕ, ◌≡◌, arith, ap, ◌∙◌, cond, eqb, length}
use Rattle.dlc_table.specs.declared.State.TheVariants.{Data, Wait}
use Rattle.dlc_queue.specs.Queue.{slots, held}
use Rattle.dlc.proofs.Parts.{length-queue}
use Rattle.dlc.proofs.Views.{view_without}
use Rattle.dlc.proofs.Link.without.Goals as goal

pub returns : goal.returns
returns c =
    let l = c.args.self in
    let long : length l.queue.slots ≡ slots = omega arith in
    let state : c.open_state.result ≡ cond (eqb (held c.remove-queue.result) 0) Data Wait =
    c.open_state.ensures ∙ ap (λ (n : ℕ). cond (eqb n 0) Data Wait) c.len.ensures in
    view_without l c.requires.0 c.remove-queue.result c.args.n c.advanced.result c.open_state.result (length-queue l long c.requires.0) c.requires.1.1
    (rw c.from.ensures at c.remove-queue.ensures) c.advanced.ensures state
