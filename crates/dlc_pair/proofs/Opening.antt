-- Opening: from a fresh link and any well-formed one (a fresh one too), start, timer and the arrivals of RESET and RESET_ACK lead to two ends that stand
-- open, each with the edition that it had; where that is the same, demand 3 holds from there on. The theorems stand last. Assumes nothing.
use Prim.Native.Nat.{ℕ}
use native.Mathlib.Omega.{arith}
use mathlib.Core.Path.{◌≡◌, refl, sym, ap, subst, ◌∙◌}
use mathlib.Core.Logic.{◌≢◌}
use mathlib.Core.Bool.{true, false, cond, ◌&&◌, false≢true}
use mathlib.Core.List.{List, [], ◌∷◌, ◌++◌}
use lib.ListN.{length}
use lib.Dec.{eqb}
use Rattle.dlc_packet.specs.Numbers.{Edition}
use Rattle.dlc_table.specs.Answers.{done, reply_too_small, bad_link, refuses}
use Rattle.dlc_table.specs.Model.{Model, fresh, opened}
use Rattle.dlc_table.specs.Events.{Effect, effect, cleared, start_of, timer_of, arrival_of}
use Rattle.dlc_answer.specs.declared.Answer.{Answer}
use Rattle.dlc.specs.Limits.{slots, reset_packet, reset_ack_packet}
use Rattle.dlc_answer.specs.Delivered.{delivered_part}
use Rattle.dlc.specs.Calls.{Meets, StartCall, TimerCall}
use Rattle.dlc_run.proofs.Copied.{copied_by-packets}
use Rattle.dlc_run.proofs.Existence.{Covers, reply, value_of}
use Rattle.dlc_run.specs.Replies.{Octets, Packets, is_data, is_dack, Reply, copied_by}
use Rattle.window.specs.Sides.{left, right}
use Rattle.window.specs.Events.{fresh as fresh_peer}
use Rattle.dlc_pair.specs.World.{one, count, End, World, fresh_end, initial}
use Rattle.dlc_pair.specs.History.{arrival, Event, GivenFront, Given, GivenAt, after_at, History, final, called, relined, arrived, after}
use Rattle.dlc_pair.specs.Demand3.{Demand3}
use Rattle.dlc_pair.specs.Opening.{opening_events, Stands}
use Rattle.dlc_pair.specs.Progress.{Enough}
use Rattle.dlc_pair.proofs.Codec.{count-++}
use Rattle.dlc_pair.proofs.Relation.{Follows}
use Rattle.dlc_pair.proofs.OneCall.{never_snoc}
use Rattle.dlc_pair.proofs.Effects.{model_of, opened_fits, resetting, resetting_fits, start_of_fresh, timer_of-resetting, arrival_of-reset, arrival_of-reset_ack, cleared_opened}
use Rattle.dlc_pair.proofs.Demand3.{demand_three_from}

-- ---- an end on the way
stands_fresh : {L : Type 0} {v : L → Model} (l : L) {m : Model} → v l ≡ m → Stands v (fresh_end l) m []
stands_fresh l h = record { model = h; line = refl; accepted = refl; delivered = refl; sent = refl; lost = refl; never = tt }

-- a call whose effect is known, and which sends no DATA
stands_called : {L : Type 0} {v : L → Model} {d : Effect} {l r : L} {before later : Octets} {answer : Answer} → Meets v d l before later r answer
    → {e : End L} {m : Model} {ks : Packets}
    → Stands v e m ks
    → {up : Packets} {n : ℕ}
    → count is_data d.packets ≡ 0
    → d.code ≢ bad_link
    → up ≡ []
    → n ≡ 0
    → Stands v (called r answer later [] up n e) d.after (ks ++ d.packets)
stands_called {d = d} {later = later} {answer = answer} c {e} {m} {ks} s {up} {n} h k eu en =
    let p : copied_by answer later ≡ d.packets = copied_by-packets c in
    record {
      model = c.returns.link;
      line = λ i. s.line i ++ p i;
      accepted = λ i. s.accepted i ++ [];
      delivered = λ i. s.delivered i ++ eu i;
      sent = count-++ is_data e.copied (copied_by answer later) ∙ omega (arith, s.sent, ap (count is_data) p, h);
      lost = omega (arith, s.lost, en);
      never = never_snoc bad_link e.answers answer.code s.never (λ x. k (sym (ap (λ (t : Answer). t.code) c.returns.answer) ∙ x));
    }

stands_relined : {L : Type 0} {v : L → Model} {e : End L} {m : Model} {ks : Packets} → Stands v e m ks → (l : Packets) (n : ℕ) → n ≡ 0 → Stands v (relined l n e) m l
stands_relined s l n h = record {
  model = s.model;
  line = refl;
  accepted = s.accepted;
  delivered = s.delivered;
  sent = s.sent;
  lost = omega (arith, s.lost, h);
  never = s.never;
}

-- an arrival of a packet that is no DATA and no DACK, and stands alone on the line
module _ {L : Type 0} {v : L → Model} {w : World L} {m m' : Model} {ks : Packets} (q : Octets) (s : Stands v w.left m ks) (s' : Stands v w.right m' (q ∷ []))
    (before : Octets) {d : Effect}
    (e : arrival_of slots m q (length before) ≡ d) (silent : count is_data d.packets ≡ 0) (code : d.code ≢ bad_link)
    (no_data : is_data q ≡ false) (no_dack : is_dack q ≡ false) where
  stands_front : (g : GivenFront v (q ∷ []) w.left before)
      → Stands v (arrived v (q ∷ []) before w g).left d.after (ks ++ d.packets) × Stands v (arrived v (q ∷ []) before w g).right m' []
  stands_front g =
      let c : Meets v d w.left.link before g.later g.link g.answer =
      subst (λ (t : Effect). Meets v t w.left.link before g.later g.link g.answer) (ap (λ (t : Model). arrival_of slots t q (length before)) s.model ∙ e) g.meets in (
        stands_called c s silent code
            (λ i. cond (no_data i && eqb g.answer.code done) (delivered_part g.answer.delivered q ∷ []) [])
            (λ i. one (no_dack i && eqb g.answer.code reply_too_small)),
        stands_relined s' [] _ (λ i. one (no_data i && eqb g.answer.code reply_too_small)),
      )

  stands_arrived : (g : Given v (arrival before) w)
      → Stands v (after v (arrival before) w g).left d.after (ks ++ d.packets) × Stands v (after v (arrival before) w g).right m' []
  stands_arrived g = at_line w.right.line s'.line g
    where
      at_line : (l : Packets) → l ≡ q ∷ [] → (g : GivenFront v l w.left before)
          → Stands v (arrived v l before w g).left d.after (ks ++ d.packets) × Stands v (arrived v l before w g).right m' []
      at_line l h = subst
          (λ (l : Packets). (g : GivenFront v l w.left before)
          → Stands v (arrived v l before w g).left d.after (ks ++ d.packets) × Stands v (arrived v l before w g).right m' [])
          (sym h) stands_front

-- a call whose effect is known may give back a link of the model after it
reply_known : {L : Type 0} {v : L → Model} (d : Effect) {d' : Effect} → d ≡ d' → (l l'' : L) (before : Octets) → v l'' ≡ d'.after → refuses d'.code ≡ false
    → Reply (Meets v d l before)
reply_known d e l l'' before h z = reply d l before l'' (h ∙ ap (λ (t : Effect). t.after) (sym e))
    (λ t. absurd (false≢true (sym z ∙ ap (λ (t : Effect). refuses t.code) (sym e) ∙ t)))

-- ---- the four calls, one after another
module _ {L : Type 0} (v : L → Model) (l l' : L) {edition : Edition} (e : v l ≡ fresh edition) (e' : (v l').ok ≡ true) (b₁ b₂ b₃ b₄ : Octets)
    (h₁ : Enough b₁) (h₂ : Enough b₂) (h₃ : Enough b₃) (h₄ : Enough b₄) where
  -- the left end after start
  start_effect_lem : start_of slots (v l) (length b₁) ≡ effect done [] (resetting edition)
  start_effect_lem = ap (λ (m : Model). start_of slots m (length b₁)) e ∙ start_of_fresh edition (length b₁) h₁

  module _ (g₁ : Reply (StartCall v l b₁)) where
    after_start : Stands v (called g₁.link g₁.answer g₁.later [] [] 0 (fresh_end l)) (resetting edition) []
    after_start = stands_called (rw start_effect_lem at g₁.meets) (stands_fresh l e) refl (λ x. omega (arith, x)) refl refl

    -- and after its timer has sent RESET
    timer_effect_lem : timer_of slots (v g₁.link) (length b₂) ≡ effect done (reset_packet ∷ []) (resetting edition)
    timer_effect_lem = ap (λ (m : Model). timer_of slots m (length b₂)) after_start.model ∙ timer_of-resetting edition (length b₂) h₂

    module _ (g₂ : Reply (TimerCall v g₁.link b₂)) where
      abbrev sent_reset : World L
      sent_reset = record { left = called g₂.link g₂.answer g₂.later [] [] 0 (called g₁.link g₁.answer g₁.later [] [] 0 (fresh_end l)); right = fresh_end l' }

      after_timer : Stands v sent_reset.left (resetting edition) (reset_packet ∷ [])
      after_timer = stands_called (rw timer_effect_lem at g₂.meets) after_start refl (λ x. omega (arith, x)) refl refl

      module _ (g₃ : GivenAt v right (arrival b₃) sent_reset) where
        abbrev answered : World L
        answered = after_at v right (arrival b₃) sent_reset g₃

        -- RESET has arrived at the right end, which is open now and has sent RESET_ACK
        after-reset : Stands v answered.right (cleared (v l')).after (reset_ack_packet ∷ []) × Stands v answered.left (resetting edition) []
        after-reset = stands_arrived reset_packet (stands_fresh l' refl) after_timer b₃
            (arrival_of-reset edition (length b₃) h₃ (v l') e') refl (λ x. omega (arith, x)) refl refl g₃

        -- RESET_ACK has arrived at the left end
        after-ack : (g₄ : GivenAt v left (arrival b₄) answered)
            → Stands v (after_at v left (arrival b₄) answered g₄).left (opened edition) []
            × Stands v (after_at v left (arrival b₄) answered g₄).right (opened (v l').edition) []
        after-ack g₄ =
            let s = stands_arrived reset_ack_packet after-reset.1 after-reset.0 b₄
            (arrival_of-reset_ack edition (length b₄) h₄) refl (λ x. omega (arith, x)) refl refl g₄ in
            (s.0, subst (λ (m : Model). Stands v (after_at v left (arrival b₄) answered g₄).right m []) (cleared_opened (v l') e') s.1)

  -- ---- the theorems
  -- both ends stand open, each with its edition, and both lines are empty
  pub opening : (h : History v (opening_events b₁ b₂ b₃ b₄) (initial l l'))
      → Stands v (final v (opening_events b₁ b₂ b₃ b₄) (initial l l') h).left (opened edition) []
      × Stands v (final v (opening_events b₁ b₂ b₃ b₄) (initial l l') h).right (opened (v l').edition) []
  opening h = after-ack h.0 h.1.0 h.1.1.0 h.1.1.1.0

  -- it can be done, where the type of links has values
  pub opening_exists : Covers v → History v (opening_events b₁ b₂ b₃ b₄) (initial l l')
  opening_exists covers =
      let resets = value_of covers (resetting edition) (resetting_fits edition) in
      let opens = value_of covers (opened edition) (opened_fits edition) in
      let answers = value_of covers (opened (v l').edition) (opened_fits (v l').edition) in
      let g₁ : Reply (StartCall v l b₁) = reply_known _ start_effect_lem l resets.0 b₁ resets.1 refl in
      let g₂ : Reply (TimerCall v g₁.link b₂) = reply_known _ (timer_effect_lem g₁) g₁.link resets.0 b₂ resets.1 refl in
      let w₂ = sent_reset g₁ g₂ in
      let g₃ : GivenAt v right (arrival b₃) w₂ =
      subst (λ (k : Packets). GivenFront v k (fresh_end l') b₃) (sym (after_timer g₁ g₂).line)
      (reply_known _ (arrival_of-reset edition (length b₃) h₃ (v l') e') l' answers.0 b₃ (answers.1 ∙ sym (cleared_opened (v l') e')) refl) in
      let w₃ = answered g₁ g₂ g₃ in
      let s₃ = after-reset g₁ g₂ g₃ in
      let g₄ : GivenAt v left (arrival b₄) w₃ =
      subst (λ (k : Packets). GivenFront v k w₃.left b₄) (sym s₃.0.line)
      (reply_known _ (ap (λ (m : Model). arrival_of slots m reset_ack_packet (length b₄)) s₃.1.model ∙ arrival_of-reset_ack edition (length b₄) h₄)
      w₃.left.link opens.0 b₄ opens.1 refl) in
      (g₁, (g₂, (g₃, (g₄, tt))))

-- from a world that opening has led to, demand 3 holds where both ends use the same edition
follows_opened : {L : Type 0} {v : L → Model} {e : End L} (d : Edition) → Stands v e (opened d) [] → Follows (model_of d) v e fresh_peer
follows_opened d s = record {
  model = s.model;
  line = s.line;
  accepted = s.accepted;
  delivered = s.delivered;
  sent = s.sent;
  lost = s.lost;
  never = s.never;
  fits = opened_fits d;
  sound = tt;
}

pub demand_three_opened : {L : Type 0} {v : L → Model} {w : World L} (d : Edition) → Stands v w.left (opened d) [] → Stands v w.right (opened d) []
    → (es : List Event) (h : History v es w)
    → Demand3 v es w h
demand_three_opened d s s' es h = demand_three_from d (record { left = follows_opened d s; right = follows_opened d s' }) es h
