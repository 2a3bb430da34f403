-- `lister::put_lines` meets its contract. The loop's invariant: what is left of the chunk gives what the whole gives, i octets on. Assumes nothing.
use Rattle.std.proofs.Common.{ℕ, Bool, List, ◌≡◌, ◌+◌, ◌-◌, ◌≤◌, length, take, drop, sym, refl, ap, ◌∙◌, subst, arith}
use lib.Seq.{length-sets}
use Rattle.deframer.proofs.TextTurns.{Turn, onwards, start_inv, turn_full, turn_within, turn_ends, turn_takes, turn-goes}
use Rattle.deframer.specs.Scan.{opened, scanned}
use Rattle.deframer.specs.declared.Rule.{Rule}
use Rattle.deframer.specs.declared.Scanned.{Scanned}
use Rattle.deframer.specs.declared.State as declared
use Rattle.framing.specs.Rules.{State}
use Rattle.line.specs.Gather.{Gathered, later}
use Rattle.line.specs.Texts.{Texts}
use Rattle.lister.proofs.Rules.{cap_is, rule_rules, verdict_within}
use Rattle.lister.specs.Entries.{source_rules, rule_of, entry_of, entry_length, line_of, counted}
use Rattle.lister.specs.Lines.{progress_of}
use Rattle.listing.specs.Line.{max_line}
use Rattle.listing.specs.declared.Entry.{Entry}
use Rattle.qaft.specs.Limits.{max_data, max_segment}
use Rattle.lister.proofs.put_lines.Goals as goal

-- the result, and the buffers after it
ended : {whole : Gathered (State _) (Texts _)} → (g : Gathered (State _) (Texts _)) → whole ≡ g → (progress_of g ≡ progress_of whole) × (g.buffer ≡ whole.buffer) × (g.made.out ≡ whole.made.out)
ended g e = (sym (ap progress_of e), sym (ap (λ (g : Gathered (State _) (Texts _)). g.buffer) e), sym (ap (λ (g : Gathered (State _) (Texts _)). g.made.out) e))

-- a turn of the shared loop, at octet i of the chunk and index at of the out buffer, under the rule that the code was given
module _ (kiss : Bool) (level : ℕ) {rule : Rule} (e : rule ≡ rule_of kiss level) where
  turn_of : {whole : Gathered (State ℕ) (Texts ℕ)} {s : declared.State} {k : ℕ} {chunk m out : List ℕ} {i at : ℕ} {u : Scanned} {m' : List ℕ}
      → i ≤ length chunk → max_segment ≤ length m → at + max_line ≤ length out
      → whole ≡ later i (onwards (line_of kiss) counted max_line (rule_of kiss level) (source_rules kiss level) (rule_rules kiss level) s (drop i chunk) m (record { tally = k; out = out; behind = at }))
      → u ≡ (scanned rule s (take (length chunk - i) (drop i chunk)) m).answer → m' ≡ (scanned rule s (take (length chunk - i) (drop i chunk)) m).buffer
      → Turn (line_of kiss) counted max_line (rule_of kiss level) (source_rules kiss level) (rule_rules kiss level) whole s k chunk m out i at u m'
  turn_of {s = s} {chunk = chunk} {m = m} {i = i} within segment room inv answer buffer = record {
    within = within;
    segment = omega (arith, segment, cap_is kiss level);
    room = room;
    inv = inv;
    answer = answer ∙ ap (λ (x : Rule). (scanned x s (take (length chunk - i) (drop i chunk)) m).answer) e;
    buffer = buffer ∙ ap (λ (x : Rule). (scanned x s (take (length chunk - i) (drop i chunk)) m).buffer) e;
  }

pub loop-at-init : goal.loop-at-init
loop-at-init c =
    let p = c in
    let kiss = p.args.l.kiss in
    let level = p.args.l.level in
    (omega arith, refl, refl, start_inv (line_of kiss) counted max_line (rule_of kiss level) (source_rules kiss level) (rule_rules kiss level) _ _ _ _ _ p.requires.0)

pub overflow_add-i : goal.overflow_add-i
overflow_add-i c =
    let room : c.loop-at.at + max_line ≤ length c.loop-at.out = (omega (arith, c.loop-at-test.true, c.loop-at.invariant.2, c.requires.0)) in
    let segment : max_segment ≤ length c.loop-at.buffer = (omega (arith, c.loop-at.invariant.1, c.requires.1)) in
    let e = c.scan-scanned.ensures in
    let turn = turn_of c.args.l.kiss c.args.l.level c.source_rule-rule.ensures c.loop-at.invariant.0 segment room c.loop-at.invariant.3 e.value e.buffer_after in
    omega (arith, turn_within _ _ _ _ _ _ turn)

pub put-at-requires : goal.put-at-requires
put-at-requires c =
    let room : c.loop-at.at + max_line ≤ length c.loop-at.out = (omega (arith, c.loop-at-test.true, c.loop-at.invariant.2, c.requires.0)) in
    let segment : max_segment ≤ length c.loop-at.buffer = (omega (arith, c.loop-at.invariant.1, c.requires.1)) in
    let k = c in
    let a = k.args in
    let s = k.in-Some.segment in
    let few = subst (λ (p : Entry). entry_length p ≤ max_data) (sym c.entry.ensures) (verdict_within a.l.kiss a.l.level s.pending s.bad s.count s.check) in
    (few, omega (arith, k.scan-scanned.auto.buffer, segment), room)

pub loop-at-smaller : goal.loop-at-smaller
loop-at-smaller c =
    let room : c.loop-at.at + max_line ≤ length c.loop-at.out = (omega (arith, c.loop-at-test.true, c.loop-at.invariant.2, c.requires.0)) in
    let segment : max_segment ≤ length c.loop-at.buffer = (omega (arith, c.loop-at.invariant.1, c.requires.1)) in
    let e = c.scan-scanned.ensures in
    let turn = turn_of c.args.l.kiss c.args.l.level c.source_rule-rule.ensures c.loop-at.invariant.0 segment room c.loop-at.invariant.3 e.value e.buffer_after in
    let k = c in
    omega (arith, turn_within _ _ _ _ _ _ turn, turn_takes _ _ _ _ _ _ turn c.in-Some.ensures.0)

pub loop-at-preserved : goal.loop-at-preserved
loop-at-preserved c =
    let room : c.loop-at.at + max_line ≤ length c.loop-at.out = (omega (arith, c.loop-at-test.true, c.loop-at.invariant.2, c.requires.0)) in
    let segment : max_segment ≤ length c.loop-at.buffer = (omega (arith, c.loop-at.invariant.1, c.requires.1)) in
    let e = c.scan-scanned.ensures in
    let turn = turn_of c.args.l.kiss c.args.l.level c.source_rule-rule.ensures c.loop-at.invariant.0 segment room c.loop-at.invariant.3 e.value e.buffer_after in
    let k = c in
    let t = k.loop-at in
    let p = c.put-at.ensures in
    let z = c.opened-state.ensures ∙ ap opened k.source_rule-rule.ensures in (
      turn_within _ _ _ _ _ _ turn,
      k.scan-scanned.auto.buffer ∙ t.invariant.1,
      ap length p.out_after ∙ length-sets t.out t.at (line_of k.args.l.kiss t.n c.entry.result k.scan-scanned.new.buffer) ∙ t.invariant.2,
      turn-goes _ _ _ _ _ _ turn c.in-Some.ensures.0 _ (c.entry.ensures ∙ ap (entry_of k.args.l.kiss k.args.l.level) c.in-Some.ensures.1) _ _ _ _ z refl p.out_after p.value,
    )

pub returns-in_default : goal.returns-in_default
returns-in_default c =
    let room : c.loop-at.at + max_line ≤ length c.loop-at.out = (omega (arith, c.loop-at-test.true, c.loop-at.invariant.2, c.requires.0)) in
    let segment : max_segment ≤ length c.loop-at.buffer = (omega (arith, c.loop-at.invariant.1, c.requires.1)) in
    let e = c.scan-scanned.ensures in
    let turn = turn_of c.args.l.kiss c.args.l.level c.source_rule-rule.ensures c.loop-at.invariant.0 segment room c.loop-at.invariant.3 e.value e.buffer_after in
    let all = ended _ (turn_ends _ _ _ _ _ _ turn c.in_default.ensures) in
    record { value = all.0; buffer_after = all.1; out_after = all.2 }

pub returns : goal.returns
returns c =
    let t = c.loop-at in
    let p = c in
    let kiss = p.args.l.kiss in
    let level = p.args.l.level in
    let full = turn_full (line_of kiss) counted max_line (rule_of kiss level) (source_rules kiss level) (rule_rules kiss level) _ t.state _ t.buffer t.n t.out t.i t.at (omega (arith, c.loop-at-test.false, t.invariant.2, p.requires.0)) t.invariant.3 in
    let e = ended _ full in
    record {
      value = e.0;
      buffer_after = e.1;
      out_after = e.2;
    }
