use Rattle.std.proofs.Common.{rules}
use Rattle.ig_notation.proofs.DeclarationParts.{widened}
use Rattle.ig_notation.proofs.declarations.read_widened.Goals as goal

pub returns-clause-ok : goal.returns-clause-ok
returns-clause-ok c =
    widened _ _ _ _ _ _ c.requires c.in_ok-tabs.ensures.ok c.in_ok-end.ensures.ok c.in_ok-decls.ensures.ok (search rules)
