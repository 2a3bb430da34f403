-- What the theorems about two ends say of this link, beside demand 3: every list of events has a history, so that demand 3 is not about nothing;
-- what was accepted is delivered where nothing was lost, and what waits once nothing is lost any more (the theorems of whatever the step table
-- simulates, at the rules of this link). Each from open ends, the latter of one edition. Assumes nothing.
use Prim.Native.Nat.{ℕ, ◌≤◌}
use mathlib.Core.Path.{◌≡◌, sym, ap, subst, ◌∙◌}
use mathlib.Core.List.{List, []}
use lib.ListN.{length}
use Rattle.dlc_packet.specs.Numbers.{Edition}
use Rattle.dlc_table.specs.Model.{Model, opened}
use Rattle.dlc.specs.Limits.{slots}
use Rattle.dlc.proofs.Values.{Fits}
use Rattle.dlc_run.specs.Replies.{Octets}
use Rattle.dlc_run.proofs.Existence.{Covers, value_of}
use Rattle.window.specs.Sides.{Side, end_at}
use Rattle.dlc_pair.specs.World.{initial}
use Rattle.dlc_pair.specs.History.{Event, History, final}
use Rattle.dlc_pair.specs.Demand3.{BothOpen}
use Rattle.dlc_pair.specs.Progress.{DrainedAt, AllDelivered, Enough, AllEnough, exchange, Settled, recovery, Recovered}
use Rattle.dlc_pair.proofs.Effects.{opened_fits, lawful, simulates}
use Rattle.dlc_pair.proofs.Demand3.{open_follow}
use Rattle.dlc_pair.proofs.Existence.{BothFit, run_fit, history_of}
use Rattle.dlc_pair.proofs.Progress.{without_loss_from, progress_from, recovers_from}

-- two links that stand open in one edition are as demand 3 has them at the start
pub both_open : {L : Type 0} {v : L → Model} {l l' : L} (d : Edition) → v l ≡ opened d → v l' ≡ opened d → BothOpen v l l'
both_open d e e' =
    let edition : Model → Edition = λ (m : Model). m.edition in
    record { left = e ∙ ap opened (sym (ap edition e)); right = e' ∙ ap opened (sym (ap edition e')); same = ap edition e ∙ sym (ap edition e') }

module _ {L : Type 0} {v : L → Model} (covers : Covers v) where
  -- there is a link of each edition that stands open
  pub opened_value : (d : Edition) → (l : L) × (v l ≡ opened d)
  opened_value d = value_of covers (opened d) (opened_fits d)

  -- of one edition or of two
  module _ (l l' : L) {d d' : Edition} (e : v l ≡ opened d) (e' : v l' ≡ opened d') where
    open_ends_lem : BothFit v (initial l l')
    open_ends_lem = record { left = subst Fits (sym e) (opened_fits d); right = subst Fits (sym e') (opened_fits d') }

    -- every list of events has a history
    pub history_exists : (es : List Event) → History v es (initial l l')
    history_exists es = history_of covers es open_ends_lem

    -- and whatever the calls gave back so far, events can go on
    pub history_goes_on : (es more : List Event) (h : History v es (initial l l')) → History v more (final v es (initial l l') h)
    history_goes_on es more h = history_of covers more (run_fit es open_ends_lem h)

-- where none of an end's DATA and no DACK to it was lost, and none is on the line, its queue is empty and all that it accepted is delivered: a
-- payload is sent when it is accepted, and no timer need be called
pub without_loss : {L : Type 0} (v : L → Model) (l l' : L) → BothOpen v l l' → (es : List Event) (h : History v es (initial l l')) (d : Side)
    → (end_at d (final v es (initial l l') h)).lost ≡ 0
    → DrainedAt d (final v es (initial l l') h)
    → AllDelivered v d (final v es (initial l l') h)
without_loss v l l' o es h = without_loss_from (simulates (v l).edition slots) (lawful (v l).edition) (open_follow o) es h tt

-- once both lines are empty: one timer call, at least as many arrivals at the other end as payloads are queued, and at least as many at this
-- end; every reply buffer is large enough and nothing is lost
pub progress : {L : Type 0} (v : L → Model) (l l' : L) → BothOpen v l l' → (es : List Event) (h : History v es (initial l l'))
    → (final v es (initial l l') h).left.line ≡ []
    → (final v es (initial l l') h).right.line ≡ []
    → (d : Side) (b : Octets) (bs cs : List Octets)
    → Enough b
    → AllEnough bs
    → AllEnough cs
    → length (v (end_at d (final v es (initial l l') h)).link).queue ≤ length bs
    → length bs ≤ length cs
    → (more : History v (exchange d b bs cs) (final v es (initial l l') h))
    → Settled v d (final v es (initial l l') h) (final v (exchange d b bs cs) (final v es (initial l l') h) more)
progress v l l' o es h = progress_from (simulates (v l).edition slots) (lawful (v l).edition) (open_follow o) es h

-- whatever is on the lines and in the queues: arrivals of what is on the lines, and an exchange of each end; every reply buffer is large enough
-- and nothing is lost. n is at least the packets on either line, and the slots of a queue
pub recovers : {L : Type 0} (v : L → Model) (l l' : L) → BothOpen v l l' → (es : List Event) (h : History v es (initial l l')) (b : Octets)
    → Enough b
    → (n : ℕ)
    → length (final v es (initial l l') h).left.line ≤ n
    → length (final v es (initial l l') h).right.line ≤ n
    → slots ≤ n
    → (more : History v (recovery b n) (final v es (initial l l') h))
    → Recovered v (final v es (initial l l') h) (final v (recovery b n) (final v es (initial l l') h) more)
recovers v l l' o es h = recovers_from (simulates (v l).edition slots) (lawful (v l).edition) (open_follow o) es h
