-- What is so of every event, whatever the limit. It leaves its link rebuilt: what is no state, queue or number of it is as it was; so no event, and no
-- list of events, changes a link's edition, or whether it is well formed. A refusal does nothing but answer its number. 27 is answered only where a
-- link is not well formed, 28 by no event. Assumes nothing.
use Prim.Native.Nat.{ℕ, ◌≤◌}
use native.Mathlib.Omega.{arith}
use mathlib.Core.Path.{◌≡◌, refl, sym, ap, ◌∙◌}
use mathlib.Core.Logic.{◌≢◌}
use mathlib.Core.Bool.{true, false, false≢true}
use mathlib.Core.List.{List, [], ◌∷◌}
use Rattle.dlc_table.specs.Answers.{done, bad_link, bad_edition, refuses}
use Rattle.dlc_table.specs.Model.{Model, rebuilt}
use Rattle.dlc_table.specs.Events.{Effect, refuse, start_of, timer_of, payload_of, arrival_of}
use Rattle.dlc_table.specs.Runs.{Event, start, timer, payload, arrival, effect_of, model_after}
use Rattle.dlc_table.proofs.Entries.{Entries, event_entries}

-- an effect whose link is m rebuilt
abbrev Rebuilds : Model → Effect → Type 0
Rebuilds m d = d.after ≡ rebuilt m d.after.state d.after.queue d.after.base d.after.expected

-- an effect that is a refusal where its number is one: nothing sent, nothing for the upper layer, the link as it was
abbrev Refuses : Model → Effect → Type 0
Refuses m d = refuses d.code ≡ true → d ≡ refuse m d.code

record Fine (m : Model) (d : Effect) : Type 0 where
  rebuilds : Rebuilds m d
  refused : Refuses m d
  other : m.ok ≡ true → d.code ≢ bad_link
  below : d.code ≤ bad_link

module _ (m : Model) where
  -- an entry that is no refusal
  passes : (d : Effect) → Rebuilds m d → refuses d.code ≡ false → d.code ≢ bad_link → d.code ≤ bad_link → Fine m d
  passes d r e o b = record { rebuilds = r; refused = λ t. absurd (false≢true (sym e ∙ t)); other = λ _. o; below = b }

  goes : done ≢ bad_link
  goes e = omega (arith, e)

  entries : (limit : ℕ) → Entries limit m (Fine m)
  entries limit = record {
    refused = λ c e b o. record { rebuilds = refl; refused = λ _. refl; other = o; below = b };
    clears = passes _ refl refl goes (omega arith);
    starts = λ s. passes _ refl refl goes (omega arith);
    opens = λ s. passes _ refl refl goes (omega arith);
    delivers = λ s. passes _ refl refl goes (omega arith);
    repeats = λ s. passes _ refl refl (λ e. omega (arith, e)) (omega arith);
    removes = λ n s l h. passes _ refl refl goes (omega arith);
    asks = λ s. passes _ refl refl goes (omega arith);
    sends = λ s. passes _ refl refl goes (omega arith);
    queues = λ p s l h. passes _ refl refl goes (omega arith);
  }

module _ (limit : ℕ) where
  pub effect_rebuilds : (e : Event) (m : Model) → Rebuilds m (effect_of limit e m)
  effect_rebuilds e m = (event_entries (entries m limit) e).rebuilds

  pub effect_refused : (e : Event) (m : Model) → Refuses m (effect_of limit e m)
  effect_refused e m = (event_entries (entries m limit) e).refused

  pub effect_keeps : (e : Event) (m : Model) → (effect_of limit e m).after.ok ≡ m.ok
  effect_keeps e m = ap (λ (m : Model). m.ok) (effect_rebuilds e m)

  pub never-bad_link : (e : Event) (m : Model) → m.ok ≡ true → (effect_of limit e m).code ≢ bad_link
  never-bad_link e m = (event_entries (entries m limit) e).other

  -- an ill-formed link is refused by 27 at every event, whatever else it has and whatever is lent
  pub ill_formed_refused : (e : Event) (m : Model) → m.ok ≡ false → effect_of limit e m ≡ refuse m bad_link
  unfolding start_of timer_of payload_of arrival_of
  ill_formed_refused (start before) m z = rw z
  ill_formed_refused (timer before) m z = rw z
  ill_formed_refused (payload p before) m z = rw z
  ill_formed_refused (arrival packet before) m z = rw z

  -- 28 is the maker's alone
  pub never-bad_edition : (e : Event) (m : Model) → (effect_of limit e m).code ≢ bad_edition
  never-bad_edition e m z = omega (arith, (event_entries (entries m limit) e).below, z)

  -- the edition survives every event, RESET too
  pub effect_edition : (e : Event) (m : Model) → (effect_of limit e m).after.edition ≡ m.edition
  effect_edition e m = ap (λ (m : Model). m.edition) (effect_rebuilds e m)

  pub run_edition : (es : List Event) (m : Model) → (model_after limit es m).edition ≡ m.edition
  run_edition [] m = refl
  run_edition (e ∷ es) m = run_edition es (effect_of limit e m).after ∙ effect_edition e m

  pub run_keeps : (es : List Event) (m : Model) → (model_after limit es m).ok ≡ m.ok
  run_keeps [] m = refl
  run_keeps (e ∷ es) m = run_keeps es (effect_of limit e m).after ∙ effect_keeps e m
