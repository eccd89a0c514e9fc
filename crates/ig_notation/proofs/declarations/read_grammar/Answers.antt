use Rattle.ig_notation.proofs.DeclarationParts.{no_start}
use Rattle.ig_notation.proofs.declarations.read_grammar.Goals as goal

pub returns-clause-ok : goal.returns-clause-ok
returns-clause-ok c = no_start _ _ _ c.in_ok-tabs.ensures.ok
