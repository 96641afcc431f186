use Rattle.std.proofs.Common.{◌∙◌, Some, ap₂}
use Rattle.std.specs.Option.{option_or}
use Rattle.order.proofs.Comparing.{differs_within, differs_beyond}
use Rattle.order.proofs.differences.first_difference.Goals as goal

pub returns-then-a-b : goal.returns-then-a-b
returns-then-a-b c = c.differs_within-differs.ensures ∙ differs_within c.args.a.now c.args.b.now c.if-a-b.true

pub returns-else-a-b : goal.returns-else-a-b
returns-else-a-b c = c.or.ensures ∙ ap₂ (λ o n. option_or o (Some n)) c.differs_within-differs.ensures c.min.ensures ∙ differs_beyond c.args.a.now c.args.b.now c.if-a-b.false
