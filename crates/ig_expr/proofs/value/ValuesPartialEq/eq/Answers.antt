use Rattle.ig_expr.proofs.Equality.{told_equal}
use Rattle.ig_expr.proofs.value.ValuesPartialEq.eq.Goals as goal

pub returns-clause-exact : goal.returns-clause-exact
returns-clause-exact c = told_equal _ _ _ _ _ c.eq.ensures c.as_slice.ensures c.as_slice-2.ensures
