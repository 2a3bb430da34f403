-- `sheet_counter::count_reports` meets its contract. The loop's invariant: what is left of the chunk gives what the whole gives, i octets on.
-- Assumes nothing.
use Rattle.std.proofs.Common.{ℕ, List, ◌≡◌, ◌-◌, ◌≤◌, refl, sym, ap, ◌∙◌, arith, length, take, drop}
use Rattle.deframer.proofs.Turns.{Turn, onwards, start_inv, turn_none, turn_within, turn_ends, turn_takes, turn-goes}
use Rattle.deframer.specs.Rule.{rules_of}
use Rattle.deframer.specs.Scan.{scanned}
use Rattle.deframer.specs.declared.Rule.{Rule}
use Rattle.deframer.specs.declared.Scanned.{Scanned}
use Rattle.deframer.specs.declared.State as declared
use Rattle.framing.specs.Closing.{closing}
use Rattle.framing.specs.Rules.{State}
use Rattle.line.specs.Gather.{Gathered, later}
use Rattle.qaft_rules.specs.Rules.{rules, verdict}
use Rattle.qaft.specs.Limits.{sum_kind}
use Rattle.qaft_read.proofs.SharedRule.{rule_rules}
use Rattle.qaft_read.specs.Scanned.{rule as qaft_rule}
use Rattle.qaft_report.specs.declared.Report.{Report}
use Rattle.sheet_counter.specs.Count.{always, with_report, progress_of}
use Rattle.sheet_found.specs.declared.Found.{Found}
use Rattle.sheet_counter.proofs.count_reports.Goals as goal

-- the result, and the buffer after it
ended : {whole : Gathered (State _) Found} → (g : Gathered (State _) Found) → whole ≡ g → (progress_of g ≡ progress_of whole) × (g.buffer ≡ whole.buffer)
ended g e = (sym (ap progress_of e), sym (ap (λ (g : Gathered (State _) Found). g.buffer) e))

pub loop-i-init : goal.loop-i-init
loop-i-init c = (omega arith, refl, λ level e. start_inv with_report always _ (rules level sum_kind) e _ _ _ _ refl)

-- a turn of the shared loop, at octet i of the chunk
module _ (rule : Rule) (level : ℕ) (e : rules_of rule ≡ closing (rules level sum_kind)) where
  turn_of : {whole : Gathered (State ℕ) Found} {s : declared.State} {chunk m : List ℕ} {d : Found} {i : ℕ} {u : Scanned} {m' : List ℕ}
      → i ≤ length chunk → rule.cap ≤ length m → whole ≡ later i (onwards with_report always rule (rules level sum_kind) e s (drop i chunk) m d)
      → u ≡ (scanned rule s (take (length chunk - i) (drop i chunk)) m).answer → m' ≡ (scanned rule s (take (length chunk - i) (drop i chunk)) m).buffer
      → Turn with_report always rule (rules level sum_kind) e whole s chunk m d i u m'
  turn_of within segment inv answer buffer = record { within = within; segment = segment; wanted = refl; inv = inv; answer = answer; buffer = buffer }

-- the rule is that of the counter's level
same_rules : (rule : Rule) (level : ℕ) → rule ≡ qaft_rule level sum_kind → rules_of rule ≡ closing (rules level sum_kind)
same_rules rule level e = ap rules_of e ∙ rule_rules level sum_kind

pub overflow_add-i : goal.overflow_add-i
overflow_add-i c =
    let at = c.loop-i in
    let e = c.scan-scanned.ensures in
    let same = same_rules _ _ c.rule-rule.ensures in
    let long : (c.rule-rule.result).cap ≤ length at.buffer = omega (arith, at.invariant.1, c.requires, ap (λ (r : Rule). r.cap) c.rule-rule.ensures) in
    omega (arith, turn_within _ _ _ _ _ (turn_of _ _ same at.invariant.0 long (at.invariant.2 _ same) e.value e.buffer_after))

pub loop-i-smaller : goal.loop-i-smaller
loop-i-smaller c =
    let at = c.loop-i in
    let e = c.scan-scanned.ensures in
    let same = same_rules _ _ c.rule-rule.ensures in
    let long : (c.rule-rule.result).cap ≤ length at.buffer = omega (arith, at.invariant.1, c.requires, ap (λ (r : Rule). r.cap) c.rule-rule.ensures) in
    let turn = turn_of _ _ same at.invariant.0 long (at.invariant.2 _ same) e.value e.buffer_after in
    omega (arith, turn_within _ _ _ _ _ turn, turn_takes _ _ _ _ _ turn c.in-Some.ensures.0)

pub loop-i-preserved : goal.loop-i-preserved
loop-i-preserved c =
    let at = c.loop-i in
    let e = c.scan-scanned.ensures in
    let same = same_rules _ _ c.rule-rule.ensures in
    let long : (c.rule-rule.result).cap ≤ length at.buffer = omega (arith, at.invariant.1, c.requires, ap (λ (r : Rule). r.cap) c.rule-rule.ensures) in
    let w = c.with_report-found.ensures ∙ ap (λ (p : Report). with_report at.found p c.scan-scanned.new.buffer) (c.report_on.ensures ∙ ap (λ (s : declared.State). verdict sum_kind s.pending s.bad s.count s.check) c.in-Some.ensures.1) in (
      turn_within _ _ _ _ _ (turn_of _ _ same at.invariant.0 long (at.invariant.2 _ same) e.value e.buffer_after),
      c.scan-scanned.auto.buffer ∙ at.invariant.1,
      λ level k. turn-goes _ _ _ _ _ (turn_of _ level k at.invariant.0 long (at.invariant.2 level k) e.value e.buffer_after) c.in-Some.ensures.0 _ _ c.opened-state.ensures w,
    )

pub returns-in_default : goal.returns-in_default
returns-in_default c =
    let at = c.loop-i in
    let e = c.scan-scanned.ensures in
    let same = same_rules _ _ c.rule-rule.ensures in
    let long : (c.rule-rule.result).cap ≤ length at.buffer = omega (arith, at.invariant.1, c.requires, ap (λ (r : Rule). r.cap) c.rule-rule.ensures) in
    let both = ended _ (turn_ends _ _ _ _ _ (turn_of _ _ same at.invariant.0 long (at.invariant.2 _ same) e.value e.buffer_after) c.in_default.ensures) in
    record { value = both.0; buffer_after = both.1 }

pub returns : goal.returns
returns c =
    let same = same_rules _ _ c.rule-rule.ensures in
    let t = c.loop-i in
    let both = ended _ (turn_none with_report always _ (rules _ sum_kind) same _ t.state c.args.chunk.now t.buffer t.found t.i (omega (arith, c.loop-i-test.false)) (t.invariant.2 _ same)) in
    record { value = both.0; buffer_after = both.1 }
