use Rattle.ig_expr.proofs.KindsOfValues.{values_have_kinds}
use Rattle.ig_expr.proofs.evaluation.value_is_of_kind.Goals as goal

pub returns : goal.returns
returns c = values_have_kinds
