use Rattle.std.proofs.Common.{ap}
use Rattle.ig_grammar.specs.Symbol.{Label}
use Rattle.ig_pass.proofs.rewriting.relabelled.Goals as goal

pub returns : goal.returns
returns c = ap (λ x. Label c.args.name x) c.in_ok-inner.ensures
