use Rattle.std.proofs.Common.{rules}
use Rattle.ig_expr.proofs.blocks.outer_by.Goals as goal

pub returns-then-from-b : goal.returns-then-from-b
returns-then-from-b c = search rules

pub returns-else-from-b : goal.returns-else-from-b
returns-else-from-b c = search rules

pub returns-in_err-column : goal.returns-in_err-column
returns-in_err-column c = search rules
