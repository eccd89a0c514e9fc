use Rattle.ig_load.proofs.Inputs.{one_of_four}
use Rattle.ig_load.proofs.input.operator.Goals as goal

pub returns-in-0 : goal.returns-in-0
returns-in-0 c = one_of_four c.args.state c.drawn.result _ c.drawn.ensures c.in-0.is

pub returns-in-1 : goal.returns-in-1
returns-in-1 c = one_of_four c.args.state c.drawn.result _ c.drawn.ensures c.in-1.is

pub returns-in-2 : goal.returns-in-2
returns-in-2 c = one_of_four c.args.state c.drawn.result _ c.drawn.ensures c.in-2.is
