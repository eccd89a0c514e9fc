use Rattle.std.proofs.Common.{rules}
use Rattle.ig_expr.proofs.blocks.is_inside.Goals as goal

pub returns-then-a-column : goal.returns-then-a-column
returns-then-a-column c = search rules

pub returns-else-a-column : goal.returns-else-a-column
returns-else-a-column c = search rules
