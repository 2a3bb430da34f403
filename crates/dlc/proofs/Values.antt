-- A link for every model that one can hold, its free slots all 0: for whoever has to show that there are links. Assumes nothing.
use Prim.Native.Nat.{ℕ, ◌≤◌, ◌<◌}
use native.Mathlib.Omega.{arith}
use mathlib.Core.Path.{◌≡◌, refl, sym, ap, ◌∙◌}
use mathlib.Core.Bool.{Bool, true, ◌&&◌}
use mathlib.Core.List.{List}
use lib.ListN.{length}
use lib.Dec.{eqb}
use borrow.Author.Tests.{lt-ltb}
use Rattle.dlc_packet.specs.Numbers.{modulus, Edition, edition_number}
use Rattle.dlc_packet.proofs.Numbers.{edition_again, edition_known}
use Rattle.dlc_table.specs.declared.State.{State}
use Rattle.dlc_table.specs.Model.{Model, rebuilt, fresh}
use Rattle.dlc_queue.specs.Queue.{slots, held, at_rest}
use Rattle.dlc_queue.proofs.Values.{queue_of, Short, held-queue_of, rest-queue_of, payloads-queue_of, formed-queue_of}
use Rattle.dlc.specs.declared.Link.{Link}
use Rattle.dlc.specs.View.{state_fits, well_formed, seen, view}

abbrev pub link_of : Model → Link
link_of m = record { state = m.state; queue = queue_of m.queue; base = m.base; expected = m.expected; edition = edition_number m.edition }

-- a model that a link can hold: it is well formed, and no limit of its parts is passed
pub record Fits (m : Model) : Type 0 where
  pub ok : m.ok ≡ true
  pub few : length m.queue ≤ slots
  pub short : Short m.queue
  pub base : m.base < modulus
  pub expected : m.expected < modulus
  pub state : state_fits m.state (length m.queue) (eqb (length m.queue) 0) m.base m.expected ≡ true

module _ (m : Model) (f : Fits m) where
  -- the state goes with the queue made of the payloads
  state_link_of : state_fits m.state (held (queue_of m.queue)) (at_rest (queue_of m.queue)) m.base m.expected ≡ true
  state_link_of = (λ i. state_fits m.state (held-queue_of m.queue i) (rest-queue_of m.queue i) m.base m.expected) ∙ f.state

  formed_link_of : well_formed (link_of m) ≡ true
  unfolding well_formed
  formed_link_of =
      λ i. formed-queue_of m.queue f.short f.few i
      && (lt-ltb m.base modulus f.base i
      && (lt-ltb m.expected modulus f.expected i && (edition_known m.edition i && state_link_of i)))

  pub view_link_of : view (link_of m) ≡ m
  view_link_of =
      ap (λ (ok : Bool). seen ok (link_of m)) (formed_link_of ∙ sym f.ok)
      ∙ (λ i. record {
        ok = m.ok;
        state = m.state;
        queue = payloads-queue_of m.queue f.few i;
        base = m.base;
        expected = m.expected;
        edition = edition_again m.edition i;
      })

-- a fresh link fits, and whatever is made of a link that fits does where its parts do
pub fits_fresh : (d : Edition) → Fits (fresh d)
fits_fresh d = record { ok = refl; few = omega arith; short = tt; base = omega arith; expected = omega arith; state = refl }

pub fits_rebuilt : (m : Model) → Fits m → (s : State) (q : List (List ℕ)) (b e : ℕ) → length q ≤ slots → Short q → b < modulus → e < modulus
    → state_fits s (length q) (eqb (length q) 0) b e ≡ true
    → Fits (rebuilt m s q b e)
fits_rebuilt m f s q b e hf hs hb he h = record { ok = f.ok; few = hf; short = hs; base = hb; expected = he; state = h }
