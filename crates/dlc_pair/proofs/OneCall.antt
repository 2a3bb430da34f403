-- A call at one end: what it has to do for its end to follow the packet system's. Over every model_of, and for rules of every kind. Assumes nothing.
use Prim.Native.Nat.{ℕ, ◌+◌, ◌<◌}
use native.Mathlib.Nat.{add-zero}
use mathlib.Core.Path.{◌≡◌, refl, sym, ap, subst, ◌∙◌}
use mathlib.Core.Logic.{◌≢◌}
use mathlib.Core.List.{List, [], ◌∷◌, ◌++◌, map, map-append, append-nil}
use Rattle.dlc_table.specs.Answers.{bad_link}
use Rattle.dlc_table.specs.Model.{Model}
use Rattle.dlc_table.specs.Events.{Effect, refuse}
use Rattle.dlc.specs.Limits.{modulus, dack_packet}
use Rattle.dlc.proofs.Values.{Fits}
use Rattle.dlc_run.specs.Replies.{Packets, is_data, Never}
use Rattle.window.specs.Packets.{Packet, dack_pdu, count_data}
use Rattle.window.specs.Ends.{Rules, End as Peer, Sender, Receiver, with_sender, answering}
use Rattle.window.proofs.InFlight.{All, all-++}
use Rattle.dlc_pair.specs.World.{count, End}
use Rattle.dlc_pair.specs.TableRun.{table_called}
use Rattle.dlc_pair.proofs.Codec.{encode, Sound, count-++, count_data_lem}
use Rattle.dlc_pair.proofs.Relation.{Follows, same}

-- what an effect has to be for its end to follow the packet system's end b, which comes of a: it sends, accepts, delivers and loses as b does
pub record Becomes (model_of : Peer → Model) (d : Effect) (a b : Peer) (accepted delivered : Packets) (lost : ℕ) : Type 0 where
  pub model : d.after ≡ model_of b
  pub code : d.code ≢ bad_link
  pub sends : List Packet
  pub packets : d.packets ≡ map encode sends
  pub line : b.line ≡ a.line ++ sends
  pub accepts : b.sender.accepted ≡ a.sender.accepted ++ accepted
  pub delivers : b.receiver.delivered ≡ a.receiver.delivered ++ delivered
  pub sent : b.sender.sent ≡ a.sender.sent + count_data sends
  pub loses : b.sender.lost ≡ a.sender.lost + lost
  pub sound : All Sound sends

pub never_snoc : (c : ℕ) (xs : List ℕ) (x : ℕ) → Never c xs → x ≢ c → Never c (xs ++ (x ∷ []))
never_snoc c [] x n h = (h, tt)
never_snoc c (y ∷ xs) x n h = (n.0, never_snoc c xs x n.1 h)

-- an end whose call does what the table says
pub follows_called : {model_of : Peer → Model} {d : Effect} {e : End Model} {a b : Peer} {accepted delivered : Packets} {n : ℕ}
    → Follows model_of same e a
    → Becomes model_of d a b accepted delivered n
    → Fits d.after
    → Follows model_of same (table_called d accepted delivered n e) b
follows_called {d = d} {e} {a} {b} {accepted} {delivered} {n} f c fits =
    record {
      model = c.model;
      line = (λ i. f.line i ++ c.packets i) ∙ sym (map-append encode a.line c.sends) ∙ ap (map encode) (sym c.line);
      accepted = ap (λ (t : Packets). t ++ accepted) f.accepted ∙ sym c.accepts;
      delivered = ap (λ (t : Packets). t ++ delivered) f.delivered ∙ sym c.delivers;
      sent = count-++ is_data e.copied d.packets ∙ (λ i. f.sent i + (ap (count is_data) c.packets ∙ count_data_lem c.sends c.sound) i) ∙ sym c.sent;
      lost = ap (λ (t : ℕ). t + n) f.lost ∙ sym c.loses;
      never = never_snoc bad_link e.answers d.code f.never c.code;
      fits = subst Fits c.model fits;
      sound = subst (All Sound) (sym c.line) (all-++ Sound a.line c.sends f.sound c.sound);
    }

-- a refusal
pub becomes_same : {model_of : Peer → Model} {a : Peer} (c : ℕ) → c ≢ bad_link → Becomes model_of (refuse (model_of a) c) a a [] [] 0
becomes_same {a = a} c h = record {
  model = refl;
  code = h;
  sends = [];
  packets = refl;
  line = sym (append-nil a.line);
  accepts = sym (append-nil a.sender.accepted);
  delivers = sym (append-nil a.receiver.delivered);
  sent = sym (add-zero a.sender.sent);
  loses = sym (add-zero a.sender.lost);
  sound = tt;
}

-- an effect that sends nothing and changes the sending half
pub becomes_sender : {model_of : Peer → Model} {d : Effect} {a : Peer} (x : Sender) {n : ℕ} → d.after ≡ model_of (with_sender x a)
    → d.code ≢ bad_link
    → d.packets ≡ []
    → x.accepted ≡ a.sender.accepted
    → x.sent ≡ a.sender.sent
    → x.lost ≡ a.sender.lost + n
    → Becomes model_of d a (with_sender x a) [] [] n
becomes_sender {a = a} x model code packets accepted sent lost = record {
  model = model;
  code = code;
  sends = [];
  packets = packets;
  line = sym (append-nil a.line);
  accepts = accepted ∙ sym (append-nil a.sender.accepted);
  delivers = sym (append-nil a.receiver.delivered);
  sent = sent ∙ sym (add-zero a.sender.sent);
  loses = lost;
  sound = tt;
}

-- one that answers by a DACK, the receiving half being y now
pub becomes_answer : {model_of : Peer → Model} (rules : Rules) {d : Effect} {a : Peer} (y : Receiver) {up : Packets} → d.after ≡ model_of (answering rules y a)
    → d.code ≢ bad_link
    → d.packets ≡ dack_packet (rules.dack_number y.expected) ∷ []
    → y.delivered ≡ a.receiver.delivered ++ up
    → rules.dack_number y.expected < modulus
    → Becomes model_of d a (answering rules y a) [] up 0
becomes_answer rules {a = a} y model code packets delivers sound = record {
  model = model;
  code = code;
  sends = dack_pdu (rules.dack_number y.expected) ∷ [];
  packets = packets;
  line = refl;
  accepts = sym (append-nil a.sender.accepted);
  delivers = delivers;
  sent = sym (add-zero a.sender.sent);
  loses = sym (add-zero a.sender.lost);
  sound = (sound, tt);
}
