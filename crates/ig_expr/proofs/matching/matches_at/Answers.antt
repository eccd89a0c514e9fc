use Rattle.ig_expr.proofs.Patterns.{matches_at_is}
use Rattle.ig_expr.proofs.matching.matches_at.Goals as goal

pub returns-clause-value : goal.returns-clause-value
returns-clause-value c = matches_at_is _ _ _ _ _ c.is_some.ensures c.ends_at.ensures
