use Rattle.ig_expr.proofs.Patterns.{match_width}
use Rattle.ig_expr.proofs.evaluation.matches_have_their_width.Goals as goal

pub returns : goal.returns
returns c = match_width
