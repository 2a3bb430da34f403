-- What the link's own functions give back meets the contracts. Assumes nothing.
use Prim.Native.Nat.{ℕ, ◌≤◌}
use mathlib.Core.Path.{◌≡◌, refl, sym, ap, ◌∙◌}
use mathlib.Core.Bool.{Bool, true, false, false≢true}
use mathlib.Core.List.{List, [], ◌∷◌, flatten, append-nil}
use lib.ListN.{length, replicate}
use Rattle.common.specs.Buffer.{with_front}
use Rattle.dlc_packet.specs.Packet.{data_packets}
use Rattle.dlc_table.specs.declared.State.TheVariants.{Wait}
use Rattle.dlc_table.specs.Answers.{done, refuses}
use Rattle.dlc_table.specs.Model.{Model}
use Rattle.dlc_table.specs.Events.{Effect, effect, refuse, made_of, timer_step}
use Rattle.dlc_queue.specs.Queue.{slots, reply_size, held}
use Rattle.dlc_send.specs.Send.{lengths_of, Sent}
use Rattle.dlc_send.proofs.Sending.{sent_all, length-data_packets}
use Rattle.dlc.specs.declared.Link.{Link}
use Rattle.dlc_answer.specs.declared.Answer.{Answer}
use Rattle.dlc.specs.declared.Outcome.{Outcome}
use Rattle.dlc.specs.View.{view, well_formed}
use Rattle.dlc.specs.Calls.{answer_of, given, OneSent, MakeCall, Returns, Meets}
use Rattle.dlc.proofs.Parts.{parts}

-- ---- a link is made
pub made_returns : (n c : ℕ) (l : Link) (m : Model) (r : Outcome) → made_of n ≡ effect c [] m → view l ≡ m → r ≡ given l (effect c [] (view l))
    → MakeCall view n r.link r.answer
made_returns n c l m r e v f = record {
  answer = ap (λ (r : Outcome). r.answer) f ∙ sym (ap answer_of e);
  link = ap (λ (r : Outcome). view r.link) f ∙ v ∙ sym (ap (λ (d : Effect). d.after) e);
}

-- ---- nothing sent
module _ (d : Effect) (l : Link) (c : ℕ) (r : Outcome) where
  -- a refusal: the link as it came
  pub refused_returns : d ≡ refuse (view l) c → r ≡ given l (effect c [] (view l)) → Returns view d l r.link r.answer
  refused_returns e f = rw (e, f) (record { answer = refl; link = refl; kept = λ t. refl })

  pub refused_meets : (m : List ℕ) → d ≡ refuse (view l) c → r ≡ given l (effect c [] (view l)) → Meets view d l m m r.link r.answer
  unfolding flatten
  refused_meets m e f = record { returns = refused_returns e f; reply = rw e }

-- done, with another link
pub done_returns : (d : Effect) (l l' : Link) (m : Model) (r : Outcome) → d ≡ effect done [] m → view l' ≡ m → r ≡ given l' (effect done [] (view l')) → Returns view d l r.link r.answer
done_returns d l l' m r e v f = rw (e, f) (record { answer = refl; link = v; kept = λ t. absurd (false≢true t) })

pub done_meets : (d : Effect) (l l' : Link) (m : Model) (s : List ℕ) (r : Outcome) → d ≡ effect done [] m → view l' ≡ m → r ≡ given l' (effect done [] (view l')) → Meets view d l s s r.link r.answer
unfolding flatten
done_meets d l l' m s r e v f = record { returns = done_returns d l l' m r e v f; reply = rw e }

pub silent_meets : {d : Effect} {l r : Link} {a : Answer} {m : List ℕ} → d.packets ≡ [] → Returns view d l r a → Meets view d l m m r a
unfolding flatten
silent_meets e g = record { returns = g; reply = rw e }

-- ---- one packet
-- an outcome with the length of the one packet is that of the packet
pub one_given : (l : Link) (c : ℕ) (up delivered : Bool) (packet : List ℕ) (n : ℕ) → n ≡ length packet
    → record { link = l; answer = record { code = c; upper_reset = up; delivered = delivered; sent = 1; lengths = with_front (n ∷ []) (replicate slots 0) } }
    ≡ given l (record { code = c; upper_reset = up; delivered = delivered; packets = packet ∷ []; after = view l })
one_given l c up delivered packet n e =
    λ i. record { link = l; answer = record { code = c; upper_reset = up; delivered = delivered; sent = 1; lengths = with_front (e i ∷ []) (replicate slots 0) } }

pub one_meets : (d : Effect) (l l' : Link) (packet before later : List ℕ) (r : Outcome) → refuses d.code ≡ false → d.packets ≡ packet ∷ [] → view l' ≡ d.after
    → OneSent l' d.code d.upper_reset d.delivered packet before later r
    → Meets view d l before later r.link r.answer
unfolding flatten
one_meets d l l' packet before later r n e v s =
    let front : with_front packet before ≡ with_front (flatten d.packets) before =
    ap (λ (p : List ℕ). with_front p before) (sym (append-nil packet)) ∙ ap (λ (ps : List (List ℕ)). with_front (flatten ps) before) (sym e) in
    rw s.outcome (record {
      returns = record { answer = rw e; link = v; kept = λ t. absurd (false≢true (sym n ∙ t)) };
      reply = s.reply ∙ front;
    })

-- ---- the whole queue
pub all_meets : (l : Link) (before later lengths : List ℕ) → well_formed l ≡ true → length (view l).queue ≡ held l.queue → reply_size ≤ length before
    → Sent l.queue l.base before later lengths
    → Meets view (timer_step (view l) Wait) l before later l
    (record { code = done; upper_reset = false; delivered = false; sent = held l.queue; lengths = lengths })
all_meets l before later lengths w n room s =
    let g = parts l w in
    let e = sent_all l.queue l.base before g.queue g.base room in
    let ps : List (List ℕ) = data_packets l.base (view l).queue in
    let c : held l.queue ≡ length ps = sym (length-data_packets l.base (view l).queue ∙ n) in
    let k : lengths ≡ lengths_of ps = s.lengths ∙ ap lengths_of e in
    record {
      returns = record {
        answer = λ i. record { code = done; upper_reset = false; delivered = false; sent = c i; lengths = k i };
        link = refl;
        kept = λ t. absurd (false≢true t);
      };
      reply = s.reply ∙ ap (λ (ps : List (List ℕ)). with_front (flatten ps) before) e;
    }

-- ---- an effect under another name
pub meets_by : {d e : Effect} {l r : Link} {before later : List ℕ} {a : Answer} → d ≡ e → Meets view e l before later r a → Meets view d l before later r a
meets_by p g = rw p g
