-- Numbers to a link and back lose nothing, and the calls' contracts go over. Assumes nothing.
use Prim.Native.Nat.{ℕ, zero, suc, ◌<◌, ◌≤◌}
use native.Mathlib.Omega.{arith}
use mathlib.Core.Path.{◌≡◌, refl, sym, ap, ap₂, ◌∙◌}
use mathlib.Core.Bool.{true, false, ◌&&◌}
use mathlib.Core.List.{List, flatten}
use lib.Dec.{leb}
use borrow.Author.Tests.{le-leb, lt-leb}
use Rattle.common.specs.Buffer.{with_front}
use Rattle.common.proofs.Bools.{and_false}
use Rattle.dlc_table.specs.declared.State.{State}
use Rattle.dlc_table.specs.declared.State.TheVariants.{Idle, Reset, Data, Wait}
use Rattle.dlc_table.specs.Answers.{bad_link, done, refuses}
use Rattle.dlc_table.specs.Model.{Model}
use Rattle.dlc_table.specs.Events.{Effect, refuse, start_of, timer_of, payload_of, arrival_of}
use Rattle.dlc_table.proofs.Refusals.{answered, start_refused, timer_refused, payload_refused, arrival_refused}
use Rattle.dlc_queue.specs.Queue.{slots}
use Rattle.dlc_packet.specs.Numbers.{known_edition}
use Rattle.dlc.specs.declared.Link.{Link}
use Rattle.dlc.specs.declared.Outcome.{Outcome}
use Rattle.dlc.specs.View.{well_formed, seen, view as link_view}
use Rattle.dlc.specs.Calls.{answer_of, Meets}
use Rattle.dlc.proofs.Parts.{unknown_edition}
use Rattle.dlc_plain.specs.declared.PlainLink.{PlainLink}
use Rattle.dlc_plain.specs.declared.PlainOutcome.{PlainOutcome}
use Rattle.dlc_plain.specs.Plain.{number_of, state_of, state_wait, link_with, plain_with, link_of, plain_of, outcome_of, view}

-- ---- there and back
state_again : (s : State) → state_of (number_of s) ≡ s
state_again Idle = refl
state_again Reset = refl
state_again Data = refl
state_again Wait = refl

known : (s : State) → leb (number_of s) state_wait ≡ true
known Idle = refl
known Reset = refl
known Data = refl
known Wait = refl

number_again : (n : ℕ) → n ≤ state_wait → number_of (state_of n) ≡ n
number_again zero h = refl
number_again (suc zero) h = refl
number_again (suc (suc zero)) h = refl
number_again (suc (suc (suc zero))) h = refl
number_again (suc (suc (suc (suc n)))) h = absurd (omega (arith, h))

pub plain_again : (c : PlainLink) → c.state ≤ state_wait → plain_of (link_of c) ≡ c
plain_again c h = ap (plain_with (link_of c)) (number_again c.state h)

-- the numbers of a link are seen as the link is
pub view_plain : (l : Link) → view (plain_of l) ≡ link_view l
view_plain l =
    let again : link_of (plain_of l) ≡ l = ap (link_with (plain_of l)) (state_again l.state) in
    let ok : (leb (number_of l.state) state_wait && well_formed (link_of (plain_of l))) ≡ well_formed l = ap₂ ◌&&◌ (known l.state) (ap well_formed again) in
    λ i. seen (ok i) (again i)

-- ---- a state of the four: the link's call does it
module _ (c : PlainLink) (h : c.state ≤ state_wait) where
  pub view_link : view c ≡ link_view (link_of c)
  view_link =
      let ok : (leb c.state state_wait && well_formed (link_of c)) ≡ well_formed (link_of c) = rw (le-leb _ _ h) in
      λ i. seen (ok i) (link_of c)

  -- f is the event of the step table, l the link by its numbers
  pub passed : (f : Model → Effect) (before later : List ℕ) (l : Link) (o : Outcome) (r : PlainOutcome) → l ≡ link_of c
      → Meets link_view (f (link_view l)) l before later o.link o.answer
      → r ≡ outcome_of o
      → Meets view (f (view c)) c before later r.link r.answer
  passed f before later l o r g m e =
      let d : f (link_view l) ≡ f (view c) = ap f (ap link_view g ∙ sym view_link) in
      record {
        returns = record {
          answer = ap (λ (r : PlainOutcome). r.answer) e ∙ m.returns.answer ∙ ap answer_of d;
          link = ap (λ (r : PlainOutcome). view r.link) e ∙ view_plain o.link ∙ m.returns.link ∙ ap (λ (d : Effect). d.after) d;
          kept = λ n. ap (λ (r : PlainOutcome). r.link) e ∙ ap plain_of (m.returns.kept (ap (λ (d : Effect). refuses d.code) d ∙ n) ∙ g) ∙ plain_again c h;
        };
        reply = m.reply ∙ ap (λ (d : Effect). with_front (flatten d.packets) before) d;
      }

-- ---- an edition that is neither: the value is ill formed, whatever its state
pub unknown_edition_ill_formed : (c : PlainLink) → known_edition c.edition ≡ false → (view c).ok ≡ false
unknown_edition_ill_formed c u = ap (◌&&◌ (leb c.state state_wait)) (unknown_edition (link_of c) u) ∙ and_false (leb c.state state_wait)

-- ---- another number: the value is ill formed
module _ (c : PlainLink) (h : state_wait < c.state) where
  module _ (room : ℕ) where
    -- what the refusals that all calls share answer
    bad_link_lem : bad_link ≡ answered slots (view c) room
    bad_link_lem = simp (lt-leb _ _ h)

    not_done : bad_link ≡ done → ⊥
    not_done e = omega (arith, e)

    pub start_bad : start_of slots (view c) room ≡ refuse (view c) bad_link
    start_bad = start_refused slots (view c) room bad_link bad_link_lem not_done

    pub timer_bad : timer_of slots (view c) room ≡ refuse (view c) bad_link
    timer_bad = timer_refused slots (view c) room bad_link bad_link_lem not_done

    pub payload_bad : (p : List ℕ) → payload_of slots (view c) p room ≡ refuse (view c) bad_link
    payload_bad = payload_refused slots (view c) room bad_link bad_link_lem not_done

    pub arrival_bad : (packet : List ℕ) → arrival_of slots (view c) packet room ≡ refuse (view c) bad_link
    arrival_bad = arrival_refused slots (view c) room bad_link bad_link_lem not_done

  pub refused : (d : Effect) (before : List ℕ) (r : PlainOutcome) → d ≡ refuse (view c) bad_link
      → r ≡ record { link = c; answer = answer_of (refuse (view c) bad_link) }
      → Meets view d c before before r.link r.answer
  unfolding flatten
  refused d before r e g = rw (e, g) (record { returns = record { answer = refl; link = refl; kept = λ n. refl }; reply = refl })
