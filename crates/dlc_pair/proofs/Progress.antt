-- What is delivered without a loss, progress and recovery, from every world that a history reaches, of whatever rules and models the step table
-- simulates. They stand last; Theorems states them of this link. Assumes nothing.
use Prim.Native.Nat.{ℕ, zero, suc, ◌+◌, ◌≤◌}
use native.Mathlib.Omega.{arith}
use mathlib.Core.Path.{◌≡◌, refl, sym, ap, subst, ◌∙◌}
use mathlib.Core.Bool.{Bool, true, not}
use mathlib.Core.List.{List, [], ◌∷◌, ◌++◌, map, map-append}
use lib.Dec.{T}
use lib.ListN.{length, replicate, length-replicate, length-map}
use borrow.Author.Tests.{le-ltb}
use Rattle.dlc_table.specs.Model.{Model}
use Rattle.dlc.specs.Limits.{slots, reply_size}
use Rattle.dlc_run.specs.Replies.{Octets}
use Rattle.window.specs.Sides.{Side, left, right, opposite, Both, end_at}
use Rattle.window.specs.Packets.{Packet}
use Rattle.window.specs.Ends.{Rules, Lawful, End as Peer}
use Rattle.window.specs.Events.{timeout, receive, Event as PacketEvent, start as packet_start, run}
use Rattle.window.specs.Claim.{DrainedAt as PacketDrainedAt, exchange as packet_exchange, Settled as PacketSettled, recovery as packet_recovery, Recovered as PacketRecovered}
use Rattle.window.proofs.Progress.{without_loss as packets-without-loss, progress as packets-progress, recovers as packets-recover}
use Rattle.dlc_pair.specs.World.{End, World}
use Rattle.dlc_pair.specs.History.{timer, Event, History, final}
use Rattle.dlc_pair.specs.Progress.{DrainedAt, AllDelivered, Enough, AllEnough, arrivals, exchange, Settled, recovery, Recovered}
use Rattle.dlc_pair.proofs.Codec.{encode}
use Rattle.dlc_pair.proofs.Relation.{Follows, BothFollow, follow_mirror}
use Rattle.dlc_pair.proofs.Simulates.{too_short, Simulates}
use Rattle.dlc_pair.proofs.Runs.{event_of, run_of, waits_follow, run_follows}

-- ---- the packet system's exchange
enough_long : (b : Octets) → Enough b → not (too_short slots b) ≡ true
enough_long b h = ap not (le-ltb (length b) reply_size h)

arrivals_packets : (d : Side) (bs : List Octets) → AllEnough bs
    → map (event_of slots) (arrivals d bs) ≡ replicate (length bs) (record { side = d; act = receive true })
arrivals_packets d [] h = refl
arrivals_packets d (b ∷ bs) h = λ i. record { side = d; act = receive (enough_long b h.0 i) } ∷ arrivals_packets d bs h.1 i

exchange_packets : (d : Side) (b : Octets) (bs cs : List Octets) → Enough b → AllEnough bs → AllEnough cs
    → map (event_of slots) (exchange d b bs cs) ≡ packet_exchange d (length bs) (length cs)
exchange_packets d b bs cs h hs ks =
    let there = arrivals_packets (opposite d) bs hs in
    let here = arrivals_packets d cs ks in
    let both : map (event_of slots) (arrivals (opposite d) bs ++ arrivals d cs) ≡ _ = map-append (event_of slots) (arrivals (opposite d) bs) (arrivals d cs) ∙ (λ i. there i ++ here i) in
    ap (λ (ok : Bool). record { side = d; act = timeout ok } ∷ map (event_of slots) (arrivals (opposite d) bs ++ arrivals d cs)) (enough_long b h)
    ∙ ap (λ (es : List PacketEvent). record { side = d; act = timeout true } ∷ es) both

-- ---- the packet system's recovery, where all buffers are b
module _ (b : Octets) (h : Enough b) where
  enough-replicate : (n : ℕ) → AllEnough (replicate n b)
  enough-replicate zero = tt
  enough-replicate (suc n) = (h, enough-replicate n)

  arrivals-replicate : (d : Side) (n : ℕ) → map (event_of slots) (arrivals d (replicate n b)) ≡ replicate n (record { side = d; act = receive true })
  arrivals-replicate d n =
      arrivals_packets d (replicate n b) (enough-replicate n)
      ∙ ap (λ (k : ℕ). replicate k (record { side = d; act = receive true })) (length-replicate n b)

  exchange-replicate : (d : Side) (n : ℕ) → map (event_of slots) (exchange d b (replicate n b) (replicate n b)) ≡ packet_exchange d n n
  exchange-replicate d n =
      exchange_packets d b (replicate n b) (replicate n b) h (enough-replicate n) (enough-replicate n) ∙ ap (λ (k : ℕ). packet_exchange d k k) (length-replicate n b)

  -- two lists of events, one after the other
  events-++ : (es fs : List Event) {ks ls : List PacketEvent} → map (event_of slots) es ≡ ks → map (event_of slots) fs ≡ ls → map (event_of slots) (es ++ fs) ≡ ks ++ ls
  events-++ es fs e f = map-append (event_of slots) es fs ∙ (λ i. e i ++ f i)

  recovery_packets : (n : ℕ) → map (event_of slots) (recovery b n) ≡ packet_recovery n
  recovery_packets n =
      let one = replicate n b in
      let two = replicate (n + n) b in
      let last = events-++ (exchange left b one one) (exchange right b one one) (exchange-replicate left n) (exchange-replicate right n) in
      let third = events-++ (arrivals right two) (exchange left b one one ++ exchange right b one one) (arrivals-replicate right (n + n)) last in
      let second = events-++ (arrivals left two) (arrivals right two ++ (exchange left b one one ++ exchange right b one one)) (arrivals-replicate left (n + n)) third in
      events-++ (arrivals right one) _ (arrivals-replicate right n) second

-- ---- read off at the ends that follow
end_follows : {model_of : Peer → Model} {L : Type 0} {v : L → Model} (d : Side) {w : World L} {s : Both Peer} → BothFollow model_of v w s → Follows model_of v (end_at d w) (end_at d s)
end_follows left f = f.left
end_follows right f = f.right

-- as the timer's premise asks for it
drained_follows : {model_of : Peer → Model} {L : Type 0} {v : L → Model} (d : Side) {w : World L} {s : Both Peer} → BothFollow model_of v w s → DrainedAt d w → PacketDrainedAt d s
drained_follows left f h = waits_follow f (timer []) h
drained_follows right f h = waits_follow (follow_mirror f) (timer []) h

line_nil : {model_of : Peer → Model} {L : Type 0} {v : L → Model} {e : End L} {a : Peer} → Follows model_of v e a → e.line ≡ [] → a.line ≡ []
line_nil {e} {a} f h = from-map a.line (sym f.line ∙ h)
  where
    from-map : (ks : List Packet) → map encode ks ≡ [] → ks ≡ []
    from-map [] h = refl
    from-map (k ∷ ks) h = cc

line-length : {model_of : Peer → Model} {L : Type 0} {v : L → Model} {e : End L} {a : Peer} {n : ℕ} → Follows model_of v e a → length e.line ≤ n → length a.line ≤ n
line-length {e} {a} f h = omega (arith, ap length f.line, length-map a.line encode)

module _ {rules : Rules} {model_of : Peer → Model} (table : Simulates slots rules model_of) {L : Type 0} {v : L → Model} where
  queue_follows : {e : End L} {a : Peer} → Follows model_of v e a → (v e.link).queue ≡ a.sender.queue
  queue_follows {a = a} f = ap (λ (m : Model). m.queue) f.model ∙ table.queue a

  settled_follows : (d : Side) {w z : World L} {s t : Both Peer} → BothFollow model_of v w s → BothFollow model_of v z t → PacketSettled d s t → Settled v d w z
  settled_follows d f g p = record {
    queue = queue_follows (end_follows d g) ∙ p.queue;
    accepted = (end_follows d g).accepted ∙ p.accepted ∙ sym (end_follows d f).accepted;
    delivered = (end_follows (opposite d) g).delivered ∙ p.delivered ∙ sym (end_follows d f).accepted;
    lines = (g.left.line ∙ ap (map encode) p.lines.0, g.right.line ∙ ap (map encode) p.lines.1);
  }

  recovered_follows : {w z : World L} {s t : Both Peer} → BothFollow model_of v w s → BothFollow model_of v z t → PacketRecovered s t → Recovered v w z
  recovered_follows f g p = record {
    queues = (queue_follows g.left ∙ p.queues.0, queue_follows g.right ∙ p.queues.1);
    lines = (g.left.line ∙ ap (map encode) p.lines.0, g.right.line ∙ ap (map encode) p.lines.1);
    left_to_right = g.right.delivered ∙ p.left_to_right ∙ sym f.left.accepted;
    right_to_left = g.left.delivered ∙ p.right_to_left ∙ sym f.right.accepted;
  }

  module _ (lawful : Lawful rules) {w : World L} (start : BothFollow model_of v w packet_start) (es : List Event) (h : History v es w) where
    -- where payloads are sent at once, nothing of an end was lost and nothing of it is on the line: whatever the timer did
    pub without_loss_from : T rules.at_once → (d : Side) → (end_at d (final v es w h)).lost ≡ 0 → DrainedAt d (final v es w h) → AllDelivered v d (final v es w h)
    without_loss_from t d z e =
        let f : BothFollow model_of v (final v es w h) (run_of slots rules es packet_start) = run_follows table es start h in
        let p = packets-without-loss rules lawful t (map (event_of slots) es) d (sym (end_follows d f).lost ∙ z) (drained_follows d f e) in
        record {
          queue = queue_follows (end_follows d f) ∙ p.queue;
          delivered = (end_follows (opposite d) f).delivered ∙ p.delivered ∙ sym (end_follows d f).accepted;
        }

    -- once both lines are empty: one timer call, at least as many arrivals at the other end as payloads are queued, and at least as many at this
    -- end; every reply buffer is large enough and nothing is lost
    pub progress_from : (final v es w h).left.line ≡ [] → (final v es w h).right.line ≡ [] → (d : Side) (b : Octets) (bs cs : List Octets)
        → Enough b
        → AllEnough bs
        → AllEnough cs
        → length (v (end_at d (final v es w h)).link).queue ≤ length bs
        → length bs ≤ length cs
        → (more : History v (exchange d b bs cs) (final v es w h))
        → Settled v d (final v es w h) (final v (exchange d b bs cs) (final v es w h) more)
    progress_from el er d b bs cs hb hbs hcs fewer less more =
        let s : Both Peer = run_of slots rules es packet_start in
        let f : BothFollow model_of v (final v es w h) s = run_follows table es start h in
        let queued : length (end_at d s).sender.queue ≤ length bs = omega (arith, ap length (queue_follows (end_follows d f)), fewer) in
        let p = packets-progress rules lawful (map (event_of slots) es) d (line_nil f.left el) (line_nil f.right er) (length bs) (length cs) queued less in
        settled_follows d f (run_follows table (exchange d b bs cs) f more)
        (subst (λ (fs : List PacketEvent). PacketSettled d s (run rules fs s)) (sym (exchange_packets d b bs cs hb hbs hcs)) p)

    -- whatever is on the lines and in the queues: arrivals of what is on the lines, and an exchange of each end; every reply buffer is large enough
    -- and nothing is lost. n is at least the packets on either line, and the slots of a queue
    pub recovers_from : (b : Octets) → Enough b → (n : ℕ) → length (final v es w h).left.line ≤ n → length (final v es w h).right.line ≤ n → slots ≤ n
        → (more : History v (recovery b n) (final v es w h))
        → Recovered v (final v es w h) (final v (recovery b n) (final v es w h) more)
    recovers_from b hb n hl hr hn more =
        let s : Both Peer = run_of slots rules es packet_start in
        let f : BothFollow model_of v (final v es w h) s = run_follows table es start h in
        let window : rules.window ≤ n = omega (arith, table.window, hn) in
        let p = packets-recover rules lawful (map (event_of slots) es) n (line-length f.left hl) (line-length f.right hr) window in
        recovered_follows f (run_follows table (recovery b n) f more)
        (subst (λ (fs : List PacketEvent). PacketRecovered s (run rules fs s)) (sym (recovery_packets b hb n)) p)
