-- No answer depends on free slots. A link's view leaves them out; two links with the same view, at the same event, answer the same,
-- fill the reply buffer alike, and are left with the same view. For every type of links and its view. Assumes nothing.
use mathlib.Core.Path.{◌≡◌, sym, ◌∙◌}
use mathlib.Core.List.{List}
use Prim.Native.Nat.{ℕ}
use Rattle.dlc_table.specs.Model.{Model}
use Rattle.dlc_table.specs.Events.{Effect}
use Rattle.dlc_answer.specs.declared.Answer.{Answer}
use Rattle.dlc.specs.Calls.{Meets, StartCall, TimerCall, PayloadCall, ArrivalCall}

-- two links and answers given back, with the reply buffers after them, that nobody can tell apart but by free slots
pub record Alike {L : Type 0} (v : L → Model) (later later' : List ℕ) (r r' : L) (a a' : Answer) : Type 0 where
  pub answer : a ≡ a'
  pub link : v r ≡ v r'
  pub reply : later ≡ later'

module _ {L : Type 0} (v : L → Model) (l l' : L) (e : v l ≡ v l') (before later later' : List ℕ) (r r' : L) (a a' : Answer) where
  -- whatever the event is, as long as its effect is a function of the view
  meets_alike : (f : Effect) → Meets v f l before later r a → Meets v f l' before later' r' a' → Alike v later later' r r' a a'
  meets_alike f m m' = record {
    answer = m.returns.answer ∙ sym m'.returns.answer;
    link = m.returns.link ∙ sym m'.returns.link;
    reply = m.reply ∙ sym m'.reply;
  }

  pub start_alike : StartCall v l before later r a → StartCall v l' before later' r' a' → Alike v later later' r r' a a'
  start_alike m m' = meets_alike _ m (rw (sym e) at m')

  pub timer_alike : TimerCall v l before later r a → TimerCall v l' before later' r' a' → Alike v later later' r r' a a'
  timer_alike m m' = meets_alike _ m (rw (sym e) at m')

  pub payload_alike : (p : List ℕ) → PayloadCall v l p before later r a → PayloadCall v l' p before later' r' a' → Alike v later later' r r' a a'
  payload_alike p m m' = meets_alike _ m (rw (sym e) at m')

  pub arrival_alike : (packet : List ℕ) → ArrivalCall v l packet before later r a → ArrivalCall v l' packet before later' r' a' → Alike v later later' r r' a a'
  arrival_alike packet m m' = meets_alike _ m (rw (sym e) at m')
