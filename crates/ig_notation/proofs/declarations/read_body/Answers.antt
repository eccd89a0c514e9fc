use Rattle.ig_notation.proofs.DeclarationParts.{no_tabs}
use Rattle.ig_notation.proofs.declarations.read_body.Goals as goal

pub returns-clause-ok : goal.returns-clause-ok
returns-clause-ok c = no_tabs c.args.tokens.now c.args.at _ c.in_ok-decls.ensures.ok
