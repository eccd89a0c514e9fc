use Rattle.ig_core.proofs.steps.copy_arguments.Goals as goal

pub returns : goal.returns
returns c = c.copy.ensures
