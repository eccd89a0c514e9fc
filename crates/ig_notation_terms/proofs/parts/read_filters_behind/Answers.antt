use Rattle.ig_notation_terms.proofs.Around.{with_filters}
use Rattle.ig_notation_terms.proofs.parts.read_filters_behind.Goals as goal

pub returns-in_ok-filtered-in-Ok-clause-ok : goal.returns-in_ok-filtered-in-Ok-clause-ok
returns-in_ok-filtered-in-Ok-clause-ok c = with_filters _ _ _ _ _ _ c.in-Ok.ensures.ok c.in_ok-filtered-in-Ok.ensures.ok
