use Rattle.std.proofs.Common.{ap, ◌∙◌, option_map}
use Rattle.ig_item.specs.Behind.{behind_of}
use Rattle.ig_item.proofs.LookedUp.{next_of, end_of, none_of}
use Rattle.ig_item.proofs.dot.behind_dot.Goals as goal

pub returns-then-dot-steps : goal.returns-then-dot-steps
returns-then-dot-steps c = end_of c.args.steps.now c.args.dot c.if-dot-steps.true

pub returns-in_err-step : goal.returns-in_err-step
returns-in_err-step c =
    ap (option_map behind_of) c.from_residual.ensures ∙
    none_of c.args.steps.now c.args.dot c.in_err-step.ensures c.if-dot-steps.false

pub returns : goal.returns
returns c = next_of c.args.steps.now c.args.dot c.in_ok-step.step.now c.in_ok-step.ensures
