use Rattle.std.proofs.Common.{rules}
use Rattle.ig_expr.proofs.Patterns.{ends_where}
use Rattle.ig_expr.proofs.matching.matches_before.Goals as goal

pub returns-then-width-position-clause-value : goal.returns-then-width-position-clause-value
returns-then-width-position-clause-value c = search rules

pub returns-else-width-position-clause-value : goal.returns-else-width-position-clause-value
returns-else-width-position-clause-value c = search rules

pub returns-then-width-position-clause-exact : goal.returns-then-width-position-clause-exact
returns-then-width-position-clause-exact c = ends_where _ _ _ _ (returns-then-width-position-clause-value c)

pub returns-else-width-position-clause-exact : goal.returns-else-width-position-clause-exact
returns-else-width-position-clause-exact c = ends_where _ _ _ _ (returns-else-width-position-clause-value c)
