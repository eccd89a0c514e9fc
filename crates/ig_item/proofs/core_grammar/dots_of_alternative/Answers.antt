use Rattle.std.proofs.Common.{◌+◌, ap}
use Rattle.ig_item.proofs.Lent.{steps_lent}
use Rattle.ig_item.proofs.core_grammar.dots_of_alternative.Goals as goal

pub returns : goal.returns
returns c = ap (λ n. n + 1) (steps_lent c.as_slice.result.now c.args.alternative.now.steps c.as_slice.ensures)
