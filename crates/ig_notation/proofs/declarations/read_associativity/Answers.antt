use Rattle.ig_notation.proofs.DeclarationParts.{unassociative}
use Rattle.ig_notation.proofs.declarations.read_associativity.Goals as goal

pub returns-in-None : goal.returns-in-None
returns-in-None c = unassociative _ _ c.requires c.in-None.ensures
