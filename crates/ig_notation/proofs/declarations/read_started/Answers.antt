use Rattle.ig_notation.proofs.DeclarationParts.{starts}
use Rattle.ig_notation.proofs.declarations.read_started.Goals as goal

pub returns-clause-ok : goal.returns-clause-ok
returns-clause-ok c = starts _ _ _ _ _ _ c.requires c.in_ok-name.ensures.ok c.in_ok-end.ensures.ok c.in_ok-start.ensures c.in_ok-tabs.ensures.ok
