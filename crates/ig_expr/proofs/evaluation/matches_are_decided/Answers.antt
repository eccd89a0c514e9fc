use Rattle.ig_expr.proofs.Patterns.{begins, ends, not_begins, not_ends}
use Rattle.ig_expr.proofs.evaluation.matches_are_decided.Goals as goal

pub returns : goal.returns
returns c text pattern p =
    record {
      begins = begins text pattern p;
      ends = ends text pattern p;
      not_begins = not_begins text pattern p;
      not_ends = not_ends text pattern p;
    }
