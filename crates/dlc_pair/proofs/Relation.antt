-- A world of octets and link values against the packet system: what it means that one follows the other. Assumes nothing.
--
-- model_of gives the model of a link that stands where an end of the packet system does. All that is known of it is in Simulates.
use Prim.Native.Nat.{ℕ, ◌+◌}
use mathlib.Core.Path.{◌≡◌, refl, sym, ap, subst, ◌∙◌}
use mathlib.Core.List.{List, map}
use Rattle.dlc_table.specs.Answers.{bad_link}
use Rattle.dlc_table.specs.Model.{Model}
use Rattle.dlc.proofs.Values.{Fits}
use Rattle.dlc_run.specs.Replies.{Packets, is_data, Never}
use Rattle.window.specs.Sides.{Both, mirror}
use Rattle.window.specs.Packets.{Packet}
use Rattle.window.specs.Ends.{End as Peer, Sender}
use Rattle.window.specs.Events.{fresh, start as packet_start}
use Rattle.window.proofs.InFlight.{All}
use Rattle.dlc_pair.specs.World.{count, End, World, fresh_end, initial}
use Rattle.dlc_pair.specs.History.{relined}
use Rattle.dlc_pair.proofs.Codec.{encode, Sound}

-- an end follows one of the packet system, of which a link can hold the model
pub record Follows (model_of : Peer → Model) {L : Type 0} (v : L → Model) (e : End L) (a : Peer) : Type 0 where
  pub model : v e.link ≡ model_of a
  pub line : e.line ≡ map encode a.line
  pub accepted : e.accepted ≡ a.sender.accepted
  pub delivered : e.delivered ≡ a.receiver.delivered
  pub sent : count is_data e.copied ≡ a.sender.sent
  pub lost : e.lost ≡ a.sender.lost
  pub never : Never bad_link e.answers
  pub fits : Fits (model_of a)
  pub sound : All Sound a.line

-- both do
pub record BothFollow (model_of : Peer → Model) {L : Type 0} (v : L → Model) (w : World L) (s : Both Peer) : Type 0 where
  pub left : Follows model_of v w.left s.left
  pub right : Follows model_of v w.right s.right

pub follow_mirror : {model_of : Peer → Model} {L : Type 0} {v : L → Model} {w : World L} {s : Both Peer} → BothFollow model_of v w s
    → BothFollow model_of v (mirror w) (mirror s)
follow_mirror f = record { left = f.right; right = f.left }

-- ---- the start
follows_fresh : {model_of : Peer → Model} {L : Type 0} {v : L → Model} → Fits (model_of fresh) → (l : L) → v l ≡ model_of fresh → Follows model_of v (fresh_end l) fresh
follows_fresh fits l e = record {
  model = e;
  line = refl;
  accepted = refl;
  delivered = refl;
  sent = refl;
  lost = refl;
  never = tt;
  fits = fits;
  sound = tt;
}

pub follow_initial : {model_of : Peer → Model} {L : Type 0} {v : L → Model} → Fits (model_of fresh) → (l l' : L) → v l ≡ model_of fresh → v l' ≡ model_of fresh
    → BothFollow model_of v (initial l l') packet_start
follow_initial fits l l' e e' = record { left = follows_fresh fits l e; right = follows_fresh fits l' e' }

-- ---- an end with another line, and m packets lost
abbrev pub losing : ℕ → Sender → Sender
losing m x = record { queue = x.queue; base = x.base; accepted = x.accepted; sent = x.sent; lost = m }

abbrev pub relined_peer : List Packet → ℕ → Peer → Peer
relined_peer ks m a = record { sender = losing m a.sender; receiver = a.receiver; line = ks }

pub follows_relined : {model_of : Peer → Model} {L : Type 0} {v : L → Model} {e : End L} {a : Peer} → Follows model_of v e a
    → (l : Packets) (ks : List Packet) (n m : ℕ)
    → model_of (relined_peer ks m a) ≡ model_of a
    → l ≡ map encode ks
    → All Sound ks
    → m ≡ a.sender.lost + n
    → Follows model_of v (relined l n e) (relined_peer ks m a)
follows_relined f l ks n m same el sound em = record {
  model = f.model ∙ sym same;
  line = el;
  accepted = f.accepted;
  delivered = f.delivered;
  sent = f.sent;
  lost = ap (λ (t : ℕ). t + n) f.lost ∙ sym em;
  never = f.never;
  fits = subst Fits (sym same) f.fits;
  sound = sound;
}

-- ---- what is seen of an end: the model of its link, and all else
abbrev pub seen_end : {L : Type 0} → (L → Model) → End L → End Model
seen_end v e = record {
  link = v e.link;
  line = e.line;
  copied = e.copied;
  accepted = e.accepted;
  delivered = e.delivered;
  lost = e.lost;
  answers = e.answers;
}

abbrev pub seen : {L : Type 0} → (L → Model) → World L → World Model
seen v w = record { left = seen_end v w.left; right = seen_end v w.right }

-- a model as a link
abbrev pub same : Model → Model
same m = m

-- an end follows where another does of which the same is seen, of whatever type its link is
module _ {model_of : Peer → Model} {L K : Type 0} {v : L → Model} {u : K → Model} where
  follows_alike : {e : End L} {x : End K} {a : Peer} → seen_end u x ≡ seen_end v e → Follows model_of v e a → Follows model_of u x a
  follows_alike q f = record {
    model = ap (λ (t : End Model). t.link) q ∙ f.model;
    line = ap (λ (t : End Model). t.line) q ∙ f.line;
    accepted = ap (λ (t : End Model). t.accepted) q ∙ f.accepted;
    delivered = ap (λ (t : End Model). t.delivered) q ∙ f.delivered;
    sent = ap (λ (t : End Model). count is_data t.copied) q ∙ f.sent;
    lost = ap (λ (t : End Model). t.lost) q ∙ f.lost;
    never = subst (λ (t : End Model). Never bad_link t.answers) (sym q) f.never;
    fits = f.fits;
    sound = f.sound;
  }

  pub follow_alike : {w : World L} {z : World K} {s : Both Peer} → seen u z ≡ seen v w → BothFollow model_of v w s → BothFollow model_of u z s
  follow_alike q f = record {
    left = follows_alike (ap (λ (t : World Model). t.left) q) f.left;
    right = follows_alike (ap (λ (t : World Model). t.right) q) f.right;
  }
