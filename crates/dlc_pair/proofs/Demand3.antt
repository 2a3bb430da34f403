-- Demand 3. The theorem stands last, for every type of links and its view; Links states it of `Link` and of what C programs hold. Assumes nothing.
--
-- Beside it: Theorems (every list of events has a history; what was accepted is delivered where nothing was lost, and what waits once nothing is
-- lost any more), Opening (how both ends come to stand open); in the crate dlc_worked Worked (a run with losses, repeats, refusals and a restart of the
-- numbers; a run that meets the bound with equality), Sixteen (that the first part is false of the step table with sixteen places or more) and Editions
-- (that it is false where the ends use different editions).
-- By itself the claim also holds of some wrong links: one that always answers 24 and sends nothing, one that answers 0 to a DACK of
-- distance 0, one that removes all at a distance above the queue. They are ruled out by the contracts, which are equations with the step
-- table, and the histories here are of calls that meet the contracts.
use Prim.Native.Nat.{ℕ, ◌+◌, ◌*◌, ◌<◌, ◌≤◌}
use native.Mathlib.Omega.{arith}
use mathlib.Core.Path.{refl, sym, ap, subst, ◌∙◌}
use mathlib.Core.List.{List, ◌++◌, map, IsPrefix}
use lib.ListN.{length}
use Rattle.dlc_packet.specs.Numbers.{Edition}
use Rattle.dlc_table.specs.Model.{Model, opened}
use Rattle.dlc.specs.Limits.{modulus, slots}
use Rattle.dlc_run.specs.Replies.{Packets}
use Rattle.window.specs.Sides.{left, right, Both}
use Rattle.window.specs.Ends.{Rules, Lawful, End as Peer}
use Rattle.window.specs.Events.{start as packet_start}
use Rattle.window.specs.Claim.{OneWay as PacketOneWay}
use Rattle.window.proofs.SlidingWindow.{sliding_window}
use Rattle.dlc_pair.specs.World.{End, World, initial}
use Rattle.dlc_pair.specs.History.{Event, History}
use Rattle.dlc_pair.specs.Demand3.{BothOpen, OneWay, Demand3}
use Rattle.dlc_pair.specs.TableRun.{InOrder}
use Rattle.dlc_pair.specs.Rules.{rules}
use Rattle.dlc_pair.proofs.Relation.{Follows, BothFollow as BothFollowBy, follow_initial}
use Rattle.dlc_pair.proofs.Simulates.{Simulates}
use Rattle.dlc_pair.proofs.Runs.{event_of, table_follows, run_follows, timer_waits-follow}
use Rattle.dlc_pair.proofs.Effects.{model_of, opened_fits, lawful_below, lawful, simulates}

-- payloads delivered and accepted at the packet system's ends are those at the ends that follow them
prefix_follows : {model_of : Peer → Model} {L : Type 0} {v : L → Model} {e e' : End L} {a a' : Peer} → Follows model_of v e a → Follows model_of v e' a'
    → IsPrefix a'.receiver.delivered a.sender.accepted
    → IsPrefix e'.delivered e.accepted
prefix_follows f f' p = (p.0, ap (λ (l : Packets). l ++ p.0) f'.delivered ∙ p.1 ∙ sym f.accepted)

-- ---- of whatever rules and models the step table simulates
module _ {rules : Rules} {model_of : Peer → Model} (table : Simulates slots rules model_of) (lawful : Lawful rules) where
  -- what the packet system's ends give, read off at the ends that follow them
  one_way : {L : Type 0} {v : L → Model} {e e' : End L} {a a' : Peer} {P Q : Type 0} → Follows model_of v e a → Follows model_of v e' a' → (Q → P)
      → PacketOneWay rules a a' P
      → OneWay e e' Q
  one_way {a = a} f f' g c = record {
    prefix = prefix_follows f f' c.prefix;
    bound = λ q.
        let b = subst (λ (n : ℕ). a.sender.sent ≤ length a.sender.accepted + n * a.sender.lost) table.window (c.bound (g q)) in
        omega (arith, b, f.sent, f.lost, ap length f.accepted);
    formed = f.never;
  }

  pub demand_three_by : {L : Type 0} {v : L → Model} {w : World L} → BothFollowBy model_of v w packet_start → (es : List Event) (h : History v es w)
      → Demand3 v es w h
  demand_three_by f es h =
      let last = run_follows table es f h in
      let c = sliding_window rules lawful (map (event_of slots) es) in
      record {
        left_to_right = one_way last.left last.right (timer_waits-follow table left es f h) c.left_to_right;
        right_to_left = one_way last.right last.left (timer_waits-follow table right es f h) c.right_to_left;
      }

-- ---- of the step table by itself
-- with any limit of places below the numbers that there are, and one edition at both ends, demand 3's first part holds of its runs
pub in_order : (d : Edition) (limit : ℕ) → limit < modulus → InOrder limit d d
in_order d limit h es =
    let f = table_follows (omega (arith, h)) (simulates d limit) es (follow_initial (opened_fits d) (opened d) (opened d) refl refl) in
    let c = sliding_window (rules d limit) (lawful_below d limit h) (map (event_of limit) es) in
    (prefix_follows f.left f.right c.left_to_right.prefix, prefix_follows f.right f.left c.right_to_left.prefix)

-- ---- of this link
abbrev pub BothFollow : {L : Type 0} → Edition → (L → Model) → World L → Both Peer → Type 0
BothFollow d v w s = BothFollowBy (model_of d) v w s

-- from every world that follows the packet system's start
pub demand_three_from : {L : Type 0} {v : L → Model} {w : World L} (d : Edition) → BothFollow d v w packet_start → (es : List Event) (h : History v es w)
    → Demand3 v es w h
demand_three_from d f es h = demand_three_by (simulates d slots) (lawful d) f es h

-- two open links of one edition do
pub open_follow : {L : Type 0} {v : L → Model} {l l' : L} → BothOpen v l l' → BothFollow (v l).edition v (initial l l') packet_start
open_follow {v = v} {l} {l'} o = follow_initial (opened_fits (v l).edition) l l' o.left (o.right ∙ ap opened (sym o.same))

-- demand 3: for every type of links and its view, and every list of events, whatever its calls give back under their contracts
pub demand_three : {L : Type 0} (v : L → Model) (l l' : L) → BothOpen v l l' → (es : List Event) (h : History v es (initial l l')) → Demand3 v es (initial l l') h
demand_three v l l' o es h = demand_three_from (v l).edition (open_follow o) es h
