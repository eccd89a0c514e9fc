use Rattle.ig_expr.proofs.Sought.{tests_look_for}
use Rattle.ig_expr.proofs.evaluation.tests_look_for_matches.Goals as goal

pub returns : goal.returns
returns c = tests_look_for
