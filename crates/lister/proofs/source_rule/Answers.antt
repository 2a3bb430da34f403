-- `lister::source_rule` meets its contract. Assumes nothing.
use Rattle.std.proofs.Common.{Bool, sym, ap, ◌∙◌}
use Rattle.lister.specs.Entries.{rule_of}
use Rattle.lister.proofs.source_rule.Goals as goal

pub returns-then-kiss : goal.returns-then-kiss
returns-then-kiss c = c.rule.ensures ∙ sym (ap (λ (b : Bool). rule_of b c.args.level) c.if-kiss.true)

pub returns : goal.returns
returns c = c.rule-2.ensures ∙ sym (ap (λ (b : Bool). rule_of b c.args.level) c.if-kiss.false)
