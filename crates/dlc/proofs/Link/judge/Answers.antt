-- `Link::judge`: the number that is expected, or another. Assumes nothing.
use Rattle.std.proofs.Common.{ℕ, ◌≡◌, refl, sym, ap, ◌∙◌, List, [], ◌∷◌, arith}
use Rattle.dlc_packet.specs.Numbers.{advance, edition_of, dack_number}
use Rattle.dlc_packet.proofs.Numbers.{dack_number-below}
use Rattle.dlc_packet.specs.Packet.{dack_packet}
use Rattle.dlc_table.specs.Events.{dack_of, expect_next}
use Rattle.dlc.specs.View.{view, relinked}
use Rattle.dlc.proofs.Parts.{parts}
use Rattle.dlc.proofs.Views.{view-expect_next}
use Rattle.dlc_table.proofs.Rows.{judged_same, judged_other, taken, other}
use Rattle.dlc.proofs.Outcomes.{one_meets, meets_by}
use Rattle.dlc.proofs.Link.judge.Goals as goal

pub overflow_add-dack-else-x-self : goal.overflow_add-dack-else-x-self
overflow_add-dack-else-x-self c =
    omega (arith, c.dack_number-dack-else-x-self.ensures, dack_number-below (edition_of c.args.self.edition) _ (parts c.args.self c.requires.0).expected)

pub returns-then-x-self : goal.returns-then-x-self
returns-then-x-self c =
    let l = c.args.self in
    let e : c.advanced.result ≡ advance l.expected 1 = c.advanced.ensures in
    let d : dack_packet c.dack_number-dack.result ≡ dack_of (expect_next (view l)) = ap dack_packet (c.dack_number-dack.ensures ∙ ap (dack_number (edition_of l.edition)) e) in
    meets_by (judged_same (view l) c.args.x c.if-x-self.true)
    (one_meets (taken (view l)) l (relinked l l.state l.queue l.base c.advanced.result) (dack_packet c.dack_number-dack.result) _ _ _ refl
    (ap (λ (p : List ℕ). p ∷ []) (sym d)) (view-expect_next l c.requires.0 c.advanced.result c.requires.1.0 e) (rw c.silent.ensures at c.send_control.ensures))

pub returns-else-x-self : goal.returns-else-x-self
returns-else-x-self c =
    let l = c.args.self in
    let d : dack_packet c.dack_number-dack-else-x-self.result ≡ dack_of (view l) = ap dack_packet c.dack_number-dack-else-x-self.ensures in
    meets_by (judged_other (view l) c.args.x c.if-x-self.false)
    (one_meets (other (view l)) l l (dack_packet c.dack_number-dack-else-x-self.result) _ _ _ refl
    (ap (λ (p : List ℕ). p ∷ []) (sym d)) refl (rw c.silent-else-x-self.ensures at c.send_control-else-x-self.ensures))
