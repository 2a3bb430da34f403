-- What the link's own functions make of a view. Assumes nothing.
use Prim.Native.Nat.{ℕ, ◌-◌, ◌<◌, ◌≤◌}
use native.Mathlib.Omega.{arith}
use mathlib.Core.Path.{◌≡◌, refl, sym, ◌∙◌}
use mathlib.Core.Bool.{true, cond}
use mathlib.Core.List.{List, [], ◌∷◌}
use lib.ListN.{length, drop, length-drop}
use lib.Dec.{ltb, eqb}
use borrow.Author.Tests.{lt-ltb, ne_eqb}
use Rattle.dlc_packet.specs.Numbers.{modulus, advance, edition_of, known_edition}
use Rattle.dlc_packet.specs.Packet.{max_payload}
use Rattle.dlc_table.specs.declared.State.{State}
use Rattle.dlc_table.specs.declared.State.TheVariants.{Idle, Data, Wait}
use Rattle.dlc_table.specs.Model.{rebuilt, in_state, fresh}
use Rattle.dlc_table.specs.Events.{is_open, expect_next, without, state_of, with_payload}
use Rattle.dlc_queue.specs.declared.Queue.{Queue}
use Rattle.dlc_queue.specs.Queue.{slots, payloads, held, formed, at_rest, fresh as fresh_queue, emptied, Pushed, Removed}
use Rattle.dlc_queue.proofs.Slots.{fresh_formed, emptied_formed, push_held, push_payloads, push_formed, remove_held, remove_payloads, remove_formed}
use Rattle.dlc.specs.declared.Link.{Link}
use Rattle.dlc.specs.View.{well_formed, state_fits, seen, view, relinked}
use Rattle.dlc.proofs.Parts.{parts, whole, fits, open_fits, queue_fits}

-- a fresh link
abbrev pub fresh_with : ℕ → Queue → Link
fresh_with n q = record { state = Idle; queue = q; base = 0; expected = 0; edition = n }

pub view_fresh : (n : ℕ) → known_edition n ≡ true → view (fresh_with n fresh_queue) ≡ fresh (edition_of n)
view_fresh n k =
    let r : Link = fresh_with n fresh_queue in
    let w : well_formed r ≡ true = whole r (record { queue = fresh_formed; base = omega arith; expected = omega arith; edition = k; state = refl }) in
    λ i. seen (w i) r

module _ (l : Link) (w : well_formed l ≡ true) where
  -- a link made of this one, of parts that go together, is seen as the model made of its model
  rebuilt_view : (s : State) (q : Queue) (b e : ℕ) → formed q ≡ true → b < modulus → e < modulus → state_fits s (held q) (at_rest q) b e ≡ true
      → view (relinked l s q b e) ≡ rebuilt (view l) s (payloads q) b e
  rebuilt_view s q b e fq fb fe fs =
      let r : Link = relinked l s q b e in
      let v : well_formed r ≡ well_formed l = whole r (record { queue = fq; base = fb; expected = fe; edition = (parts l w).edition; state = fs }) ∙ sym w in
      λ i. seen (v i) r

  -- RESET leaves an empty queue
  pub view_cleared : view (relinked l Data (emptied l.queue) 0 0) ≡ rebuilt (view l) Data [] 0 0
  view_cleared = rebuilt_view Data (emptied l.queue) 0 0 (emptied_formed l.queue) (omega arith) (omega arith) refl

  -- start and RESET_ACK: only the state changes
  pub view-in_state : (s : State) → fits l s ≡ true → view (relinked l s l.queue l.base l.expected) ≡ in_state s (view l)
  view-in_state s f =
      let g = parts l w in
      rebuilt_view s l.queue l.base l.expected g.queue g.base g.expected f

  -- DATA: only the expected number changes
  pub view-expect_next : (e : ℕ) → is_open l.state ≡ true → e ≡ advance l.expected 1
      → view (relinked l l.state l.queue l.base e) ≡ expect_next (view l)
  view-expect_next e o p =
      let g = parts l w in
      let f = open_fits l.state (held l.queue) (at_rest l.queue) l.base l.expected e o g.state in
      rebuilt_view l.state l.queue l.base e g.queue g.base (omega (arith, p)) f
      ∙ (λ i. rebuilt (view l) l.state (payloads l.queue) l.base (p i))

  -- a payload more
  pub view-with_payload : (q : Queue) (p : List ℕ) → held l.queue < slots → length p ≤ max_payload → Pushed l.queue p q
      → view (relinked l Wait q l.base l.expected) ≡ with_payload (view l) p
  view-with_payload q p h k m =
      let g = parts l w in
      let n = push_held l.queue q g.queue p h k m in
      let ps = push_payloads l.queue q g.queue p h k m in
      let f : ltb 0 (held q) ≡ true = lt-ltb 0 (held q) (omega (arith, n)) in
      rebuilt_view Wait q l.base l.expected (push_formed l.queue q g.queue p h k m) g.base g.expected f
      ∙ (λ i. rebuilt (view l) Wait (ps i) l.base l.expected)

-- the state of an open link by its queue, and by how many payloads it counts
state_of_lem : (ps : List (List ℕ)) (n : ℕ) → length ps ≡ n → state_of ps ≡ cond (eqb n 0) Data Wait
state_of_lem [] n e = rw (sym e)
state_of_lem (p ∷ ps) n e = rw (ne_eqb n 0 (λ z. omega (arith, z, e)))

-- the n oldest payloads fewer
pub view_without : (l : Link) (w : well_formed l ≡ true) (q : Queue) (n b : ℕ) (s : State) → length (view l).queue ≡ held l.queue → n ≤ held l.queue
    → Removed l.queue n q
    → b ≡ advance l.base n
    → s ≡ cond (eqb (held q) 0) Data Wait
    → view (relinked l s q b l.expected) ≡ without (view l) n
view_without l w q n b s long h m e t =
    let g = parts l w in
    let c : held q ≡ held l.queue - n = remove_held l.queue q g.queue n h m in
    let ps : payloads q ≡ drop n (view l).queue = remove_payloads l.queue q g.queue n h m in
    let len : length (drop n (view l).queue) ≡ held q = length-drop n (view l).queue ∙ omega (arith, long, c) in
    let st : s ≡ state_of (drop n (view l).queue) = t ∙ sym (state_of_lem (drop n (view l).queue) (held q) len) in
    let f : state_fits s (held q) (at_rest q) b l.expected ≡ true =
    (λ i. state_fits (st i) (sym len i) (at_rest q) b l.expected) ∙ queue_fits (drop n (view l).queue) (at_rest q) b l.expected in
    rebuilt_view l w s q b l.expected (remove_formed l.queue q g.queue n h m) (omega (arith, e)) g.expected f
    ∙ (λ i. rebuilt (view l) (st i) (ps i) (e i) l.expected)
