-- The world of demand 3 is the step table's, of as many places as the queue has slots: whatever the calls of a history gave back under their contracts,
-- what is seen of the world after it is the table's run of its events (specs/TableRun). So what is proved of the table's runs holds of histories. Assumes nothing.
use Prim.Native.Nat.{ℕ}
use mathlib.Core.Path.{◌≡◌, refl, ap, ◌∙◌}
use mathlib.Core.Option.{Option, none, some}
use mathlib.Core.List.{List, [], ◌∷◌}
use lib.ListN.{get_elem?}
use Rattle.dlc_table.specs.Model.{Model}
use Rattle.dlc_table.specs.Events.{Effect}
use Rattle.dlc_answer.specs.declared.Answer.{Answer}
use Rattle.dlc.specs.Limits.{slots}
use Rattle.dlc.specs.Calls.{answer_of, Meets}
use Rattle.dlc_run.proofs.Copied.{copied_by-packets}
use Rattle.dlc_run.specs.Replies.{Octets, Packets, is_data, is_dack, accepted_by, delivered_by}
use Rattle.window.specs.Sides.{Side, left, right, mirror}
use Rattle.dlc_pair.specs.World.{End, World}
use Rattle.dlc_pair.specs.History.{Act, payload, timer, start, arrival, loss, Event, GivenFront, Given, GivenAt, end_after, called, relined, lost_by, arrived, lost_at, after, after_at}
use Rattle.dlc_pair.specs.History.{History, final}
use Rattle.dlc_pair.specs.TableRun.{table_called, table_arrived, table_step, table_step_at, table_run}
use Rattle.dlc_pair.proofs.Relation.{seen_end, seen}

module _ {L : Type 0} (v : L → Model) where
  -- ---- a call; what its caller makes of the answer is made of the table's
  module _ (e : End L) (accepted delivered : Answer → Packets) (lost : Answer → ℕ) where
    call_seen : {d : Effect} {before later : Octets} {r : L} {a : Answer} → Meets v d e.link before later r a
        → seen_end v (called r a later (accepted a) (delivered a) (lost a) e)
        ≡ table_called d (accepted (answer_of d)) (delivered (answer_of d)) (lost (answer_of d)) (seen_end v e)
    call_seen m = λ i.
        let a = m.returns.answer i in
        end_after (m.returns.link i) a.code (copied_by-packets m i) (accepted a) (delivered a) (lost a) (seen_end v e)

  -- ---- an event at the left end
  arrived_seen : (l : Packets) (before : Octets) (w : World L) (g : GivenFront v l w.left before)
      → seen v (arrived v l before w g) ≡ table_arrived slots l before (seen v w)
  arrived_seen [] before w g = refl
  arrived_seen (q ∷ qs) before w g =
      let m = g.meets in
      λ i. record {
        left = call_seen w.left (λ _. []) (delivered_by q) (lost_by (is_dack q)) m i;
        right = relined qs (lost_by (is_data q) (m.returns.answer i)) (seen_end v w.right);
      }

  lost_seen : (n : ℕ) (q : Option Octets) (w : World L) → seen v (lost_at n q w) ≡ lost_at n q (seen v w)
  lost_seen n none w = refl
  lost_seen n (some q) w = refl

  step_by_the_table : (a : Act) (w : World L) (g : Given v a w) → seen v (after v a w g) ≡ table_step slots a (seen v w)
  step_by_the_table (payload p before) w g = λ i. record {
    left = call_seen w.left (accepted_by p) (λ _. []) (λ _. 0) g.meets i;
    right = seen_end v w.right;
  }
  step_by_the_table (timer before) w g = λ i. record { left = call_seen w.left (λ _. []) (λ _. []) (λ _. 0) g.meets i; right = seen_end v w.right }
  step_by_the_table (start before) w g = λ i. record { left = call_seen w.left (λ _. []) (λ _. []) (λ _. 0) g.meets i; right = seen_end v w.right }
  step_by_the_table (arrival before) w g = arrived_seen w.right.line before w g
  step_by_the_table (loss n) w g = lost_seen n (get_elem? w.left.line n) w

  pub step_at-by_the_table : (d : Side) (a : Act) (w : World L) (g : GivenAt v d a w) → seen v (after_at v d a w g) ≡ table_step_at slots d a (seen v w)
  step_at-by_the_table left a w g = step_by_the_table a w g
  step_at-by_the_table right a w g = ap mirror (step_by_the_table a (mirror w) g)

  -- ---- a list of them
  pub final_by_the_table : (es : List Event) (w : World L) (h : History v es w) → seen v (final v es w h) ≡ table_run slots es (seen v w)
  final_by_the_table [] w h = refl
  final_by_the_table (e ∷ es) w h =
      final_by_the_table es (after_at v e.side e.act w h.0) h.1 ∙ ap (table_run slots es) (step_at-by_the_table e.side e.act w h.0)
