-- Lists of events at one link, by the step table. Cited by whoever follows a link over many calls. Assumes nothing.
--
--   Event                    a call at a link, with what is lent to it: any octets, and any number of them
--   effect_of limit e m       what the table says of it
--   effects limit es m       what it says of a list, each event at the link that the one before left
--   model_after limit es m    the link after them
use Rattle.std.specs.Prelude.{ℕ, List, [], ◌∷◌, length}
use Rattle.dlc_table.specs.Model.{Model}
use Rattle.dlc_table.specs.Events.{Effect, start_of, timer_of, payload_of, arrival_of}

pub data Event : Type 0 where
  start : List ℕ → Event  -- the reply buffer
  timer : List ℕ → Event  -- the reply buffer
  payload : List ℕ → List ℕ → Event  -- the payload, the reply buffer
  arrival : List ℕ → List ℕ → Event  -- the packet, the reply buffer

module _ (limit : ℕ) where
  abbrev pub effect_of : Event → Model → Effect
  effect_of (start before) m = start_of limit m (length before)
  effect_of (timer before) m = timer_of limit m (length before)
  effect_of (payload p before) m = payload_of limit m p (length before)
  effect_of (arrival packet before) m = arrival_of limit m packet (length before)

  abbrev pub effects : List Event → Model → List Effect
  effects [] m = []
  effects (e ∷ es) m = effect_of e m ∷ effects es (effect_of e m).after

  abbrev pub model_after : List Event → Model → Model
  model_after [] m = m
  model_after (e ∷ es) m = model_after es (effect_of e m).after
