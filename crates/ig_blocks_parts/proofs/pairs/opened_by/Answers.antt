use Rattle.std.proofs.Common.{◌∙◌, ap₂}
use Rattle.ig_expr.specs.Expression as expression
use Rattle.ig_blocks_parts.specs.Setting.{opened}
use Rattle.ig_blocks_parts.proofs.pairs.opened_by.Goals as goal

pub returns-in-Ok : goal.returns-in-Ok
returns-in-Ok c = c.opened.ensures ∙ ap₂ (λ x y. opened (expression.Outer x y) expression.Here) c.in_ok-column.ensures c.in-Ok.ensures
