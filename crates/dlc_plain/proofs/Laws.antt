-- The link that C programs hold: no event makes it ill formed, and no answer depends on free slots. The laws of every view, at its own;
-- the calls are those that the functions of this crate, and the exported ones, ensure. Assumes nothing.
use Prim.Native.Nat.{ℕ}
use mathlib.Core.Path.{◌≡◌}
use mathlib.Core.Bool.{true}
use mathlib.Core.List.{List}
use Rattle.dlc_answer.specs.declared.Answer.{Answer}
use Rattle.dlc.specs.Calls.{StartCall, TimerCall, PayloadCall, ArrivalCall}
use Rattle.dlc.proofs.StaysFormed as formed
use Rattle.dlc.proofs.FreeSlots as alike
use Rattle.dlc.proofs.FreeSlots.{Alike}
use Rattle.dlc_plain.specs.declared.PlainLink.{PlainLink}
use Rattle.dlc_plain.specs.Plain.{view}

module _ (l : PlainLink) (ok : (view l).ok ≡ true) (before later : List ℕ) (r : PlainLink) (a : Answer) where
  pub start_formed : StartCall view l before later r a → (view r).ok ≡ true
  start_formed = formed.start_formed view l ok before later r a

  pub timer_formed : TimerCall view l before later r a → (view r).ok ≡ true
  timer_formed = formed.timer_formed view l ok before later r a

  pub payload_formed : (p : List ℕ) → PayloadCall view l p before later r a → (view r).ok ≡ true
  payload_formed = formed.payload_formed view l ok before later r a

  pub arrival_formed : (packet : List ℕ) → ArrivalCall view l packet before later r a → (view r).ok ≡ true
  arrival_formed = formed.arrival_formed view l ok before later r a

module _ (l l' : PlainLink) (e : view l ≡ view l') (before later later' : List ℕ) (r r' : PlainLink) (a a' : Answer) where
  pub start_alike : StartCall view l before later r a → StartCall view l' before later' r' a' → Alike view later later' r r' a a'
  start_alike = alike.start_alike view l l' e before later later' r r' a a'

  pub timer_alike : TimerCall view l before later r a → TimerCall view l' before later' r' a' → Alike view later later' r r' a a'
  timer_alike = alike.timer_alike view l l' e before later later' r r' a a'

  pub payload_alike : (p : List ℕ) → PayloadCall view l p before later r a → PayloadCall view l' p before later' r' a' → Alike view later later' r r' a a'
  payload_alike = alike.payload_alike view l l' e before later later' r r' a a'

  pub arrival_alike : (packet : List ℕ) → ArrivalCall view l packet before later r a → ArrivalCall view l' packet before later' r' a'
      → Alike view later later' r r' a a'
  arrival_alike = alike.arrival_alike view l l' e before later later' r r' a a'
