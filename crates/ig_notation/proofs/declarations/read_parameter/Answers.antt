use Rattle.ig_notation.proofs.DeclarationParts.{parameter}
use Rattle.ig_notation.proofs.declarations.read_parameter.Goals as goal

pub returns-clause-ok : goal.returns-clause-ok
returns-clause-ok c = parameter _ _ _ _ _ _ c.in_ok-name.ensures.ok c.in_ok-next.ensures.ok c.in_ok-kind.ensures.ok c.in_ok-name-2.ensures
