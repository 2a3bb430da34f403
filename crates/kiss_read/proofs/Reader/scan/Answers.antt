-- What the shared loop gives back, judged.
use Rattle.std.proofs.Common.{◌≡◌, ap, ap₂, ◌∙◌, arith}
use Rattle.deframer.specs.Scan.{scanned}
use Rattle.deframer.specs.declared.Rule.{Rule}
use Rattle.deframer.specs.declared.State.{State}
use Rattle.kiss_read.proofs.Scanning.{buffer_is, type_small, scan_open, scan_closed}
use Rattle.kiss_read.specs.Scanned.{rule, state_of}
use Rattle.kiss_read.specs.declared.Reader.{Reader}
use Rattle.kiss_report.specs.Outcome.Outcome.{Reported, UsedUp}
use Rattle.kiss_rules.specs.Rules.{verdict}
use Rattle.kiss_read.proofs.Reader.scan.Goals as goal
use Rattle.kiss_read.proofs.Reader.scan.Goals.{After-scan-scanned}

-- the loop was handed the reader's rule and state
handed : (c : After-scan-scanned)
    → let a = c.args in
    let k = c.scan-scanned in
    (k.result ≡ (scanned rule (state_of a.self) a.chunk.now a.buffer.now).answer)
    × (k.new.buffer ≡ (scanned rule (state_of a.self) a.chunk.now a.buffer.now).buffer)
handed c =
    let a = c.args in
    let k = c.scan-scanned in (
      k.ensures.value ∙ ap₂ (λ (l : Rule) (s : State). (scanned l s a.chunk.now a.buffer.now).answer) c.rule.ensures c.from.ensures,
      k.ensures.buffer_after ∙ ap₂ (λ (l : Rule) (s : State). (scanned l s a.chunk.now a.buffer.now).buffer) c.rule.ensures c.from.ensures,
    )

pub reader_of-requires : goal.reader_of-requires
reader_of-requires c =
    let a = c.args in
    let h = handed (goal.at.reader_of-requires c).After-scan-scanned in
    type_small a.self a.chunk.now a.buffer.now c.requires _ _ h.0 h.1 (λ j. omega (arith, c.type_inv.chunk j)) (omega arith) c.in_default.ensures

pub returns-clause-value : goal.returns-clause-value
returns-clause-value c =
    let a = c.args in
    let h = handed (goal.at.returns-clause-value c).After-scan-scanned in
    ap (λ (r : Reader). record { outcome = Reported c.report_on.result; taken = c.scan-scanned.result.taken; reader = r }) c.opened.ensures
    ∙ scan_closed a.self a.chunk.now a.buffer.now c.requires _ _ h.0 h.1 c.in-Some.ensures.0 _ (c.report_on.ensures ∙ ap (λ (s : State). verdict s.pending s.bad s.count s.check) c.in-Some.ensures.1)

pub returns-clause-buffer_after : goal.returns-clause-buffer_after
returns-clause-buffer_after c =
    let h = handed (goal.at.returns-clause-buffer_after c).After-scan-scanned in
    buffer_is c.args.self c.args.chunk.now c.args.buffer.now c.requires _ _ h.0 h.1

pub returns-in_default-clause-value : goal.returns-in_default-clause-value
returns-in_default-clause-value c =
    let a = c.args in
    let h = handed (goal.at.returns-in_default-clause-value c).After-scan-scanned in
    ap (λ (r : Reader). record { outcome = UsedUp; taken = c.scan-scanned.result.taken; reader = r }) c.reader_of.ensures
    ∙ scan_open a.self a.chunk.now a.buffer.now c.requires _ _ h.0 h.1 c.in_default.ensures

pub returns-in_default-clause-buffer_after : goal.returns-in_default-clause-buffer_after
returns-in_default-clause-buffer_after c =
    let h = handed (goal.at.returns-in_default-clause-buffer_after c).After-scan-scanned in
    buffer_is c.args.self c.args.chunk.now c.args.buffer.now c.requires _ _ h.0 h.1
