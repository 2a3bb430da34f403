-- `converter::source_rule` meets its contract. Assumes nothing.
use Rattle.std.proofs.Common.{Bool, sym, ap, ◌∙◌}
use Rattle.converter.specs.Gist.{rule_of}
use Rattle.converter.proofs.source_rule.Goals as goal

pub returns-then-to_kiss : goal.returns-then-to_kiss
returns-then-to_kiss c = c.rule.ensures ∙ sym (ap (λ (b : Bool). rule_of b c.args.level) c.if-to_kiss.true)

pub returns : goal.returns
returns c = c.rule-2.ensures ∙ sym (ap (λ (b : Bool). rule_of b c.args.level) c.if-to_kiss.false)
