use Rattle.ig_notation_terms.proofs.Around.{list_of}
use Rattle.ig_notation_terms.proofs.parts.listed.Goals as goal

pub returns-in_ok-new-in-Ok-clause-ok : goal.returns-in_ok-new-in-Ok-clause-ok
returns-in_ok-new-in-Ok-clause-ok c = list_of _ _ _ _ _ _ c.in-Ok.ensures c.in_ok-new-in-Ok.ensures c.separated.ensures
