-- Every list of events at two ends has a history, from every world whose links fit: no choice of outcomes gets stuck. The links given back are values
-- that the code can hold (dlc_run/proofs/Existence, for one end). For every type of links in which each `Link` has a value. Assumes nothing.
use Prim.Native.Nat.{ℕ}
use mathlib.Core.Option.{Option, none, some}
use mathlib.Core.List.{List, [], ◌∷◌}
use lib.ListN.{get_elem?}
use Rattle.dlc_table.specs.Model.{Model}
use Rattle.dlc_table.specs.Runs.{payload as payload_call, timer as timer_call, start as start_call, arrival as arrival_call}
use Rattle.dlc.proofs.Values.{Fits}
use Rattle.dlc_run.specs.Replies.{Octets, Packets}
use Rattle.dlc_run.proofs.Existence.{Covers, link_fits, reply_exists}
use Rattle.window.specs.Sides.{Side, left, right, mirror}
use Rattle.dlc_pair.specs.World.{World}
use Rattle.dlc_pair.specs.History.{Act, payload, timer, start, arrival, loss, Event, GivenFront, Given, GivenAt, arrived, lost_at, after, after_at, History, final}

-- a world whose links fit
pub record BothFit {L : Type 0} (v : L → Model) (w : World L) : Type 0 where
  pub left : Fits (v w.left.link)
  pub right : Fits (v w.right.link)

fit_mirror : {L : Type 0} {v : L → Model} {w : World L} → BothFit v w → BothFit v (mirror w)
fit_mirror f = record { left = f.right; right = f.left }

-- ---- whatever the calls give back, they fit again
module _ {L : Type 0} {v : L → Model} {w : World L} (f : BothFit v w) where
  arrived_fit : (l : Packets) (before : Octets) (g : GivenFront v l w.left before) → BothFit v (arrived v l before w g)
  arrived_fit [] before g = f
  arrived_fit (q ∷ qs) before g = record { left = link_fits v (arrival_call q before) w.left.link g f.left; right = f.right }

  lost_fit : (n : ℕ) (q : Option Octets) → BothFit v (lost_at n q w)
  lost_fit n none = f
  lost_fit n (some q) = record { left = f.left; right = f.right }

  after_fit : (a : Act) (g : Given v a w) → BothFit v (after v a w g)
  after_fit (payload p before) g = record { left = link_fits v (payload_call p before) w.left.link g f.left; right = f.right }
  after_fit (timer before) g = record { left = link_fits v (timer_call before) w.left.link g f.left; right = f.right }
  after_fit (start before) g = record { left = link_fits v (start_call before) w.left.link g f.left; right = f.right }
  after_fit (arrival before) g = arrived_fit w.right.line before g
  after_fit (loss n) g = lost_fit n (get_elem? w.left.line n)

after_at_fit : {L : Type 0} {v : L → Model} {w : World L} → BothFit v w → (d : Side) (a : Act) (g : GivenAt v d a w) → BothFit v (after_at v d a w g)
after_at_fit f left a g = after_fit f a g
after_at_fit f right a g = fit_mirror (after_fit (fit_mirror f) a g)

pub run_fit : {L : Type 0} {v : L → Model} (es : List Event) {w : World L} → BothFit v w → (h : History v es w) → BothFit v (final v es w h)
run_fit [] f h = f
run_fit (e ∷ es) f h = run_fit es (after_at_fit f e.side e.act h.0) h.1

-- ---- there is something to give back
module _ {L : Type 0} {v : L → Model} (covers : Covers v) where
  front_given : {w : World L} → BothFit v w → (l : Packets) (before : Octets) → GivenFront v l w.left before
  front_given f [] before = tt
  front_given {w} f (q ∷ qs) before = reply_exists covers (arrival_call q before) w.left.link f.left

  given : {w : World L} → BothFit v w → (a : Act) → Given v a w
  given {w} f (payload p before) = reply_exists covers (payload_call p before) w.left.link f.left
  given {w} f (timer before) = reply_exists covers (timer_call before) w.left.link f.left
  given {w} f (start before) = reply_exists covers (start_call before) w.left.link f.left
  given {w} f (arrival before) = front_given f w.right.line before
  given f (loss n) = tt

  given_at : {w : World L} → BothFit v w → (d : Side) (a : Act) → GivenAt v d a w
  given_at f left a = given f a
  given_at f right a = given (fit_mirror f) a

  pub history_of : (es : List Event) {w : World L} → BothFit v w → History v es w
  history_of [] f = tt
  history_of (e ∷ es) f =
      let g = given_at f e.side e.act in
      (g, history_of es (after_at_fit f e.side e.act g))
