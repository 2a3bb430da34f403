-- A well-formed link, part by part. Assumes nothing.
use Prim.Native.Nat.{ℕ, suc, ◌<◌}
use native.Mathlib.Omega.{arith}
use mathlib.Core.Path.{◌≡◌, refl, sym, ◌∙◌}
use mathlib.Core.Bool.{Bool, true, false, ◌&&◌, false≢true}
use mathlib.Core.List.{List, [], ◌∷◌}
use lib.ListN.{length}
use lib.Dec.{ltb, eqb}
use borrow.Author.Tests.{lt-ltb, ltb-true, eq-eqb}
use Rattle.common.proofs.Bools.{and_both}
use Rattle.dlc_packet.specs.Numbers.{modulus, known_edition}
use Rattle.dlc_table.specs.declared.State.{State}
use Rattle.dlc_table.specs.declared.State.TheVariants.{Idle, Reset, Data, Wait}
use Rattle.dlc_table.specs.Events.{is_open, state_of}
use Rattle.dlc_queue.specs.Queue.{slots, payloads, held, at_rest, formed}
use Rattle.dlc_queue.proofs.Slots.{formed_count, length-payloads, rest_held}
use Rattle.dlc.specs.declared.Link.{Link}
use Rattle.dlc.specs.View.{state_fits, well_formed}

-- whether the link's queue and numbers go with a state
abbrev pub fits : Link → State → Bool
fits l s = state_fits s (held l.queue) (at_rest l.queue) l.base l.expected

pub record Parts (l : Link) : Type 0 where
  pub queue : formed l.queue ≡ true
  pub base : l.base < modulus
  pub expected : l.expected < modulus
  pub edition : known_edition l.edition ≡ true
  pub state : fits l l.state ≡ true

pub parts : (l : Link) → well_formed l ≡ true → Parts l
unfolding well_formed
parts l e =
    let k : Bool = known_edition l.edition in
    let f : Bool = fits l l.state in
    let a = and_both (formed l.queue) (ltb l.base modulus && (ltb l.expected modulus && (k && f))) e in
    let b = and_both (ltb l.base modulus) (ltb l.expected modulus && (k && f)) a.1 in
    let c = and_both (ltb l.expected modulus) (k && f) b.1 in
    let d = and_both k f c.1 in
    record { queue = a.0; base = ltb-true _ _ b.0; expected = ltb-true _ _ c.0; edition = d.0; state = d.1 }

pub whole : (l : Link) → Parts l → well_formed l ≡ true
unfolding well_formed
whole l g = simp (g.queue, lt-ltb _ _ g.base, lt-ltb _ _ g.expected, g.edition) g.state

-- whatever else it has: with an unknown edition a value is no link
pub unknown_edition : (l : Link) → known_edition l.edition ≡ false → well_formed l ≡ false
unknown_edition l e = by_case (well_formed l) refl
  where
    by_case : (b : Bool) → well_formed l ≡ b → well_formed l ≡ false
    by_case true z = absurd (false≢true (sym e ∙ (parts l z).edition))
    by_case false z = z

-- in an open state the expected number is free
pub open_fits : (s : State) (n : ℕ) (r : Bool) (b e e' : ℕ) → is_open s ≡ true → state_fits s n r b e ≡ true → state_fits s n r b e' ≡ true
open_fits Idle n r b e e' h f = absurd (false≢true h)
open_fits Reset n r b e e' h f = absurd (false≢true h)
open_fits Data n r b e e' h f = f
open_fits Wait n r b e e' h f = f

-- and so is every number where the state is that of the queue
pub queue_fits : (q : List (List ℕ)) (r : Bool) (b e : ℕ) → state_fits (state_of q) (length q) r b e ≡ true
queue_fits [] r b e = refl
queue_fits (p ∷ q) r b e = lt-ltb 0 (suc (length q)) (omega arith)

module _ (l : Link) where
  -- DLIDLE goes over to DLRESET, and DLRESET to DLDATA, with the same queue and numbers
  pub idle_fits : {s : State} → s ≡ Idle → fits l s ≡ true → fits l Reset ≡ true
  idle_fits h f = rw h at f

  pub reset_fits : {s : State} → s ≡ Reset → fits l s ≡ true → fits l Data ≡ true
  reset_fits h f =
      let rests : at_rest l.queue ≡ true = (and_both (at_rest l.queue) (eqb l.base 0 && eqb l.expected 0) (rw h at f)).0 in
      eq-eqb _ _ (rest_held l.queue rests)

  -- as many payloads as the queue counts
  pub length-queue : length l.queue.slots ≡ slots → well_formed l ≡ true → length (payloads l.queue) ≡ held l.queue
  length-queue long e = length-payloads l.queue long (formed_count l.queue (parts l e).queue)
