-- `send_payloads`: what is left of the queue, written behind what stands there, gives the whole. Assumes nothing.
use Rattle.std.proofs.Common.{ℕ, suc, ◌+◌, ◌≤◌, arith, ◌≡◌, ap, ◌∙◌, List, [], map, length, drop, get_or, length-set, drop_of_length-le}
use mathlib.Core.List.{flatten}
use lib.ListN.{length-map}
use Rattle.dlc_packet.specs.Numbers.{advance}
use Rattle.dlc_packet.specs.Packet.{max_payload}
use Rattle.dlc_queue.specs.declared.Payload.{Payload}
use Rattle.dlc_queue.specs.Queue.{octets_of}
use Rattle.dlc_queue.proofs.Short.{none, short_at_lem}
use Rattle.std.proofs.lemmas.List.{length-take}
use Rattle.dlc_send.proofs.Sending.{next, reply_next, counts_next, sent, short_payloads}
use Rattle.dlc_send.proofs.send_payloads.Goals as goal

pub put_data-length-requires : goal.put_data-length-requires
put_data-length-requires c =
    let p : Payload = get_or c.args.payloads.now c.loop-i.i none in
    let few : p.len ≤ max_payload = short_at_lem c.args.payloads.now c.loop-i.i c.requires.1.0 in
    (omega arith, omega (arith, few, ap length c.as_slice.ensures, length-take p.len p.octets, length-map c.args.payloads.now octets_of))

pub loop-i-preserved : goal.loop-i-preserved
loop-i-preserved c =
    let l = c.loop-i in
    let q : List Payload = c.args.payloads.now in
    let p : Payload = get_or q l.i none in
    let ps : List (List ℕ) = map octets_of q in
    let rest : List (List ℕ) = drop (l.i + 1) ps in
    let k = c.put_data-length in
    let few : p.len ≤ max_payload = short_at_lem q l.i c.requires.1.0 in
    let all : length ps ≡ length q = length-map q octets_of in
    let x' : c.advanced-x.result ≡ advance l.x 1 = c.advanced-x.ensures in
    let len : length c.as_slice.result.now ≡ length (octets_of p) = ap length c.as_slice.ensures in
    let count : k.result ≡ suc (length (octets_of p)) = omega (arith, k.ensures.0, len) in
    let e = next q l.i (omega arith) in
    record {
      within = omega arith;
      number = omega (arith, x');
      place = omega (arith, count, few, length-take p.len p.octets);
      long = k.auto.out ∙ l.invariant.long;
      table = length-set l.lengths l.i k.result ∙ l.invariant.table;
      reply =
          rw (x', k.ensures.1, c.as_slice.ensures, count) (reply_next (drop l.i ps) rest (octets_of p) l.x e l.out l.at ∙ l.invariant.reply);
      counts =
          rw (x', count) (counts_next (drop l.i ps) rest (octets_of p) l.x e l.lengths l.i ∙ l.invariant.counts);
    }

pub returns : goal.returns
unfolding flatten
returns c =
    let l = c.loop-i in
    let q : List Payload = c.args.payloads.now in
    let ps : List (List ℕ) = map octets_of q in
    let all : length ps ≡ length q = length-map q octets_of in
    let past : length ps ≤ l.i = omega arith in
    let left : drop l.i ps ≡ [] = drop_of_length-le ps past in
    sent ps c.args.base c.args.out.now l.out l.lengths (short_payloads q c.requires.1.0) (omega arith) (omega arith)
    (rw left at l.invariant.reply) (rw left at l.invariant.counts)
