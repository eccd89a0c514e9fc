use Rattle.std.proofs.Common.{rules}
use Rattle.ig_item.proofs.step.Step.binds.Goals as goal

pub returns-in-Call : goal.returns-in-Call
returns-in-Call c = search rules
