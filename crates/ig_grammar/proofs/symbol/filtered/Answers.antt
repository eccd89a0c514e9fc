use Rattle.std.proofs.Common.{ap}
use Rattle.ig_grammar.specs.declared.symbol.Symbol.{Symbol}
use Rattle.ig_grammar.proofs.symbol.filtered.Goals as goal

pub returns-in-Ok : goal.returns-in-Ok
returns-in-Ok c = ap (Symbol.Filtered c.args.inner) c.in-Ok.ensures
