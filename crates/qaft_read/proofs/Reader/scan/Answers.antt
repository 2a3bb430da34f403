-- What the shared loop gives back, judged.
use Rattle.std.proofs.Common.{◌≡◌, ap, ap₂, ◌∙◌}
use Rattle.deframer.specs.Scan.{scanned}
use Rattle.deframer.specs.declared.Rule.{Rule}
use Rattle.deframer.specs.declared.State.{State}
use Rattle.qaft_read.proofs.Scanning.{buffer_is, scan_open, scan_closed}
use Rattle.qaft_read.specs.Scanned.{rule, state_of}
use Rattle.qaft_read.specs.declared.Reader.{Reader}
use Rattle.qaft_report.specs.Outcome.Outcome.{Reported, UsedUp}
use Rattle.qaft_rules.specs.Rules.{verdict}
use Rattle.qaft_read.proofs.Reader.scan.Goals as goal
use Rattle.qaft_read.proofs.Reader.scan.Goals.{After-scan-scanned}

-- the loop was handed the reader's rule and state
handed : (c : After-scan-scanned)
    → let a = c.args in
    let k = c.scan-scanned in
    (k.result ≡ (scanned (rule a.self.level a.self.check_kind) (state_of a.self) a.chunk.now a.buffer.now).answer)
    × (k.new.buffer ≡ (scanned (rule a.self.level a.self.check_kind) (state_of a.self) a.chunk.now a.buffer.now).buffer)
handed c =
    let a = c.args in
    let k = c.scan-scanned in (
      k.ensures.value ∙ ap₂ (λ (l : Rule) (s : State). (scanned l s a.chunk.now a.buffer.now).answer) c.rule-r.ensures c.from.ensures,
      k.ensures.buffer_after ∙ ap₂ (λ (l : Rule) (s : State). (scanned l s a.chunk.now a.buffer.now).buffer) c.rule-r.ensures c.from.ensures,
    )

pub returns-clause-value : goal.returns-clause-value
returns-clause-value c =
    let a = c.args in
    let h = handed (goal.at.returns-clause-value c).After-scan-scanned in
    ap (λ (r : Reader). record { outcome = Reported c.report_on.result; taken = c.scan-scanned.result.taken; reader = r }) c.opened.ensures
    ∙ scan_closed a.self a.chunk.now a.buffer.now c.requires _ _ h.0 h.1 c.in-Some.ensures.0 _ (c.report_on.ensures ∙ ap (λ (s : State). verdict a.self.check_kind s.pending s.bad s.count s.check) c.in-Some.ensures.1)

pub returns-clause-buffer_after : goal.returns-clause-buffer_after
returns-clause-buffer_after c =
    let h = handed (goal.at.returns-clause-buffer_after c).After-scan-scanned in
    buffer_is c.args.self c.args.chunk.now c.args.buffer.now c.requires _ _ h.0 h.1

pub returns-in_default-clause-value : goal.returns-in_default-clause-value
returns-in_default-clause-value c =
    let a = c.args in
    let h = handed (goal.at.returns-in_default-clause-value c).After-scan-scanned in
    ap (λ (r : Reader). record { outcome = UsedUp; taken = c.scan-scanned.result.taken; reader = r }) c.at.ensures
    ∙ scan_open a.self a.chunk.now a.buffer.now c.requires _ _ h.0 h.1 c.in_default.ensures

pub returns-in_default-clause-buffer_after : goal.returns-in_default-clause-buffer_after
returns-in_default-clause-buffer_after c =
    let h = handed (goal.at.returns-in_default-clause-buffer_after c).After-scan-scanned in
    buffer_is c.args.self c.args.chunk.now c.args.buffer.now c.requires _ _ h.0 h.1
