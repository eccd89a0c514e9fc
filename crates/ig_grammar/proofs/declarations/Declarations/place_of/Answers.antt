use Rattle.std.proofs.Common.{rules}
use Rattle.ig_grammar.proofs.declarations.Declarations.place_of.Goals as goal

pub returns : goal.returns
returns c = search rules
