-- `converter::put_frames` meets its contract. The loop's invariant: what is left of the chunk gives what the whole gives, i octets on. Assumes nothing.
use Rattle.std.proofs.Common.{ℕ, Bool, List, ◌≡◌, ◌+◌, ◌-◌, ◌≤◌, length, take, drop, sym, refl, ap, ◌∙◌, subst, arith, length-drop, length-take-le}
use Rattle.converter.proofs.Rules.{Within, rule_rules}
use Rattle.converter.proofs.Turns.{cap_is, answered, gist_within, put_out, put_behind, put_long, put_fits, within-length}
use Rattle.converter.specs.Convert.{report_text, counted}
use Rattle.converter.specs.Gist.{source_rules, rule_of, gist_of}
use Rattle.deframer.proofs.TextTurns.{Turn, onwards, start_inv, turn_full, turn_within, turn_ends, turn_takes, turn-goes}
use Rattle.deframer.specs.Scan.{opened, scanned}
use Rattle.converter.specs.declared.Tally.{Tally}
use Rattle.deframer.specs.declared.Rule.{Rule}
use Rattle.deframer.specs.declared.Scanned.{Scanned}
use Rattle.deframer.specs.declared.State as declared
use Rattle.framing.specs.Rules.{State}
use Rattle.line.specs.Gather.{Gathered, later}
use Rattle.line.specs.Texts.{Texts}
use Rattle.qaft.specs.Limits.{max_segment, max_frame}
use Rattle.converter.proofs.put_frames.Goals as goal

-- a turn of the shared loop, at octet i of the chunk and index at of the out buffer, under the rule that the code was given
module _ (to_kiss : Bool) (level : ℕ) {rule : Rule} (e : rule ≡ rule_of to_kiss level) where
  turn_of : {whole : Gathered (State ℕ) (Texts Tally)} {s : declared.State} {k : Tally} {chunk m out : List ℕ} {i at : ℕ} {u : Scanned} {m' : List ℕ}
      → i ≤ length chunk → max_segment ≤ length m → at + max_frame ≤ length out
      → whole ≡ later i (onwards (report_text to_kiss level) counted max_frame (rule_of to_kiss level) (source_rules to_kiss level) (rule_rules to_kiss level) s (drop i chunk) m (record { tally = k; out = out; behind = at }))
      → u ≡ (scanned rule s (take (length chunk - i) (drop i chunk)) m).answer → m' ≡ (scanned rule s (take (length chunk - i) (drop i chunk)) m).buffer
      → Turn (report_text to_kiss level) counted max_frame (rule_of to_kiss level) (source_rules to_kiss level) (rule_rules to_kiss level) whole s k chunk m out i at u m'
  turn_of {s = s} {chunk = chunk} {m = m} {i = i} within segment room inv answer buffer = record {
    within = within;
    segment = omega (arith, segment, cap_is to_kiss level);
    room = room;
    inv = inv;
    answer = answer ∙ ap (λ (x : Rule). (scanned x s (take (length chunk - i) (drop i chunk)) m).answer) e;
    buffer = buffer ∙ ap (λ (x : Rule). (scanned x s (take (length chunk - i) (drop i chunk)) m).buffer) e;
  }

pub loop-at-init : goal.loop-at-init
loop-at-init c =
    let p = c in
    let to_kiss = p.args.c.to_kiss in
    let level = p.args.c.level in
    (omega arith, refl, refl, start_inv (report_text to_kiss level) counted max_frame (rule_of to_kiss level) (source_rules to_kiss level) (rule_rules to_kiss level) _ _ _ _ _ p.requires.1)

pub overflow_add-i : goal.overflow_add-i
overflow_add-i c =
    let room : c.loop-at.at + max_frame ≤ length c.loop-at.out = (let p = c in omega (arith, c.loop-at-test.true, c.loop-at.invariant.2, p.requires.1)) in
    let segment : max_segment ≤ length c.loop-at.buffer = (let p = c in omega (arith, c.loop-at.invariant.1, p.requires.2)) in
    let e = c.scan-scanned.ensures in
    let turn = turn_of c.args.c.to_kiss c.args.c.level c.source_rule-rule.ensures c.loop-at.invariant.0 segment room c.loop-at.invariant.3 e.value e.buffer_after in
    omega (arith, turn_within _ _ _ _ _ _ turn)

pub slice_bounds-put-count : goal.slice_bounds-put-count
slice_bounds-put-count c =
    let room : c.loop-at.at + max_frame ≤ length c.loop-at.out = (let p = c in omega (arith, c.loop-at-test.true, c.loop-at.invariant.2, p.requires.1)) in
    omega (arith, room)

pub slice_bounds-put-start : goal.slice_bounds-put-start
slice_bounds-put-start c =
    let room : c.loop-at.at + max_frame ≤ length c.loop-at.out = (let p = c in omega (arith, c.loop-at-test.true, c.loop-at.invariant.2, p.requires.1)) in
    omega (arith, room)

pub put-at-requires : goal.put-at-requires
put-at-requires c =
    let room : c.loop-at.at + max_frame ≤ length c.loop-at.out = (let p = c in omega (arith, c.loop-at-test.true, c.loop-at.invariant.2, p.requires.1)) in
    let segment : max_segment ≤ length c.loop-at.buffer = (let p = c in omega (arith, c.loop-at.invariant.1, p.requires.2)) in
    let k = c in
    let l = k.loop-at in
    let a = k.args in
    let p = k in
    let g = (c.gist-gist.ensures ∙ ap (gist_of c.args.c.to_kiss c.args.c.level) c.in-Some.ensures.1) in
    let w = gist_within a.c k.scan-scanned.result.state in
    let n = length-drop l.at l.out in (
      p.requires.0,
      omega (arith, c.length.ensures, within-length c.gist-gist.result (subst Within (sym g) w)),
      omega (arith, k.scan-scanned.auto.buffer, segment),
      omega (arith, length-take-le (length l.out - l.at) (drop l.at l.out) (omega (arith, n)), room),
    )

pub overflow_add-at : goal.overflow_add-at
overflow_add-at c =
    let room : c.loop-at.at + max_frame ≤ length c.loop-at.out = (let p = c in omega (arith, c.loop-at-test.true, c.loop-at.invariant.2, p.requires.1)) in
    let k = c in
    let l = k.loop-at in
    let a = k.args in
    let q = c.put-at.ensures in
    omega (arith, l.invariant.2, k.well_formed.1.1.1.0, put_fits a.c k.scan-scanned.result.state l.tally _ l.out l.at room _ (c.gist-gist.ensures ∙ ap (gist_of c.args.c.to_kiss c.args.c.level) c.in-Some.ensures.1) _ c.length.ensures _ _ q.value q.out_after)

pub loop-at-smaller : goal.loop-at-smaller
loop-at-smaller c =
    let room : c.loop-at.at + max_frame ≤ length c.loop-at.out = (let p = c in omega (arith, c.loop-at-test.true, c.loop-at.invariant.2, p.requires.1)) in
    let segment : max_segment ≤ length c.loop-at.buffer = (let p = c in omega (arith, c.loop-at.invariant.1, p.requires.2)) in
    let e = c.scan-scanned.ensures in
    let turn = turn_of c.args.c.to_kiss c.args.c.level c.source_rule-rule.ensures c.loop-at.invariant.0 segment room c.loop-at.invariant.3 e.value e.buffer_after in
    let k = c in
    omega (arith, turn_within _ _ _ _ _ _ turn, turn_takes _ _ _ _ _ _ turn c.in-Some.ensures.0)

pub loop-at-preserved : goal.loop-at-preserved
loop-at-preserved c =
    let room : c.loop-at.at + max_frame ≤ length c.loop-at.out = (let p = c in omega (arith, c.loop-at-test.true, c.loop-at.invariant.2, p.requires.1)) in
    let segment : max_segment ≤ length c.loop-at.buffer = (let p = c in omega (arith, c.loop-at.invariant.1, p.requires.2)) in
    let e = c.scan-scanned.ensures in
    let turn = turn_of c.args.c.to_kiss c.args.c.level c.source_rule-rule.ensures c.loop-at.invariant.0 segment room c.loop-at.invariant.3 e.value e.buffer_after in
    let k = c in
    let l = k.loop-at in
    let a = k.args in
    let to_kiss = a.c.to_kiss in
    let s = k.scan-scanned.result.state in
    let q = c.put-at.ensures in
    let g = (c.gist-gist.ensures ∙ ap (gist_of c.args.c.to_kiss c.args.c.level) c.in-Some.ensures.1) in
    let n = c.length.ensures in
    let z = c.opened-state.ensures ∙ ap opened k.source_rule-rule.ensures in
    let goes = turn-goes _ _ _ _ _ _ turn c.in-Some.ensures.0 _ g _ _ _ _ z c.with-tally.ensures
    (put_out a.c s l.tally _ l.out l.at room _ g _ n _ _ q.value q.out_after) (put_behind a.c s l.tally _ l.out l.at room _ g _ n _ _ q.value q.out_after) in (
      turn_within _ _ _ _ _ _ turn,
      k.scan-scanned.auto.buffer ∙ l.invariant.1,
      put_long a.c s l.tally _ l.out l.at room _ g _ n _ _ q.value q.out_after ∙ l.invariant.2,
      goes,
    )

pub returns-in_default : goal.returns-in_default
returns-in_default c =
    let room : c.loop-at.at + max_frame ≤ length c.loop-at.out = (let p = c in omega (arith, c.loop-at-test.true, c.loop-at.invariant.2, p.requires.1)) in
    let segment : max_segment ≤ length c.loop-at.buffer = (let p = c in omega (arith, c.loop-at.invariant.1, p.requires.2)) in
    let e = c.scan-scanned.ensures in
    let turn = turn_of c.args.c.to_kiss c.args.c.level c.source_rule-rule.ensures c.loop-at.invariant.0 segment room c.loop-at.invariant.3 e.value e.buffer_after in
    let k = c in
    let l = k.loop-at in
    let a = k.args in
    let all = answered a.c _ _ l.tally _ l.out _ l.at _ (turn_ends _ _ _ _ _ _ turn c.in_default.ensures) c.later.ensures in
    record { value = all.0; buffer_after = all.1; out_after = all.2 }

pub returns : goal.returns
returns c =
    let l = c.loop-at in
    let p = c in
    let a = p.args in
    let to_kiss = a.c.to_kiss in
    let full = turn_full (report_text to_kiss a.c.level) counted max_frame (rule_of to_kiss a.c.level) (source_rules to_kiss a.c.level) (rule_rules to_kiss a.c.level) _ l.state _ l.buffer l.tally l.out l.i l.at (omega (arith, c.loop-at-test.false, l.invariant.2, p.requires.1)) l.invariant.3 in
    let all = answered a.c _ l.state l.tally l.buffer l.out l.i l.at _ full c.later-2.ensures in
    record { value = all.0; buffer_after = all.1; out_after = all.2 }
