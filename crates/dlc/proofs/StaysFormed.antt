-- No event makes a well-formed link ill formed: whether a link is one is part of the view, and no row of the table changes it. Assumes nothing.
use mathlib.Core.Path.{◌≡◌, ap, ◌∙◌}
use mathlib.Core.Bool.{true}
use mathlib.Core.List.{List}
use Prim.Native.Nat.{ℕ}
use Rattle.dlc_table.specs.Model.{Model}
use Rattle.dlc_table.specs.Runs.{Event, start, timer, payload, arrival, effect_of}
use Rattle.dlc_table.proofs.StaysFormed.{effect_keeps}
use Rattle.dlc_queue.specs.Queue.{slots}
use Rattle.dlc_answer.specs.declared.Answer.{Answer}
use Rattle.dlc.specs.Calls.{Meets, StartCall, TimerCall, PayloadCall, ArrivalCall}

-- for every type of links and its view; of a `Link`, `(view l).ok` is `well_formed l`
module _ {L : Type 0} (v : L → Model) (l : L) (ok : (v l).ok ≡ true) (before later : List ℕ) (r : L) (a : Answer) where
  formed_after : (e : Event) → Meets v (effect_of slots e (v l)) l before later r a → (v r).ok ≡ true
  formed_after e c = ap (λ (m : Model). m.ok) c.returns.link ∙ effect_keeps slots e (v l) ∙ ok

  pub start_formed : StartCall v l before later r a → (v r).ok ≡ true
  start_formed = formed_after (start before)

  pub timer_formed : TimerCall v l before later r a → (v r).ok ≡ true
  timer_formed = formed_after (timer before)

  pub payload_formed : (p : List ℕ) → PayloadCall v l p before later r a → (v r).ok ≡ true
  payload_formed p = formed_after (payload p before)

  pub arrival_formed : (packet : List ℕ) → ArrivalCall v l packet before later r a → (v r).ok ≡ true
  arrival_formed packet = formed_after (arrival packet before)
