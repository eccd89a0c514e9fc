use Rattle.std.proofs.Common.{ap}
use Rattle.ig_item.specs.Step as item
use Rattle.ig_core.proofs.steps.call_step.Goals as goal

pub returns-in-Ok : goal.returns-in-Ok
returns-in-Ok c = ap (λ z. item.Call c.args.nonterminal z c.args.label c.args.not) c.in-Ok.ensures
