use Rattle.std.proofs.Common.{◌∙◌, ◌+◌, ap}
use Rattle.ig_levels.proofs.operands.bounds_at.Goals as goal

pub returns-clause-left : goal.returns-clause-left
returns-clause-left c = c.in_ok-sum.ensures.number ∙ ap (λ z. c.args.level + z) c.more_on_the_left.ensures

pub returns-clause-right : goal.returns-clause-right
returns-clause-right c = c.in_ok-sum-2.ensures.number ∙ ap (λ z. c.args.level + z) c.more_on_the_right.ensures
