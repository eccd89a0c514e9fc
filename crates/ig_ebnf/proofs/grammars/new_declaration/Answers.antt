use Rattle.std.proofs.Common.{rules}
use Rattle.ig_ebnf.proofs.grammars.new_declaration.Goals as goal

pub returns-clause-same : goal.returns-clause-same
returns-clause-same c = search rules
