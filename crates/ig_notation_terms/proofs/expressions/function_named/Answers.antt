use Rattle.std.proofs.Common.{refl}
use Rattle.ig_notation_terms.proofs.Names.{function_is}
use Rattle.ig_notation_terms.proofs.expressions.function_named.Goals as goal

pub returns : goal.returns
returns c = function_is _ c.args.name.now _ refl c.utf8.name c.entry.ensures
