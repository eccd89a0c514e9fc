use Rattle.ig_notation.proofs.DeclarationParts.{level}
use Rattle.ig_notation.proofs.declarations.read_level.Goals as goal

pub returns-clause-ok : goal.returns-clause-ok
returns-clause-ok c = level _ _ _ _ _ _ c.read_associativity-assoc.ensures c.in_ok-alts.ensures.ok
