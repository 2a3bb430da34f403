-- `Queue::remove`: the payloads behind the n oldest move to the front, one slot a turn. Assumes nothing.
use Rattle.std.proofs.Common.{ℕ, ◌≡◌, ◌+◌, ◌-◌, sym, ap, ◌∙◌, arith, take, drop}
use Rattle.std.proofs.lemmas.List.{drop-take}
use Rattle.dlc_queue.proofs.Slots.{removed_oldest}
use Rattle.dlc_queue.proofs.Queue.remove.Goals as goal

pub returns : goal.returns
returns c =
    let q = c.args.self in
    let n : ℕ = c.args.n in
    let l = c.loop-i in
    let k : ℕ = q.count - n in
    let e : k ≡ l.i = omega (arith, c.loop-i-test.false, l.auto.i-end) in
    let all : q.count ≡ n + k = omega arith in
    removed_oldest q n l.self.slots (omega arith) (omega arith)
    (ap (λ (m : ℕ). take m l.self.slots) e ∙ l.invariant.1 ∙ ap (λ (m : ℕ). take m (drop n q.slots)) (sym e) ∙ sym (ap (λ (m : ℕ). drop n (take m q.slots)) all ∙ drop-take n k q.slots))
