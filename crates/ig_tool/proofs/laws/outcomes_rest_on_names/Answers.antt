use Rattle.ig_tool.proofs.Named.{outcomes_rest}
use Rattle.ig_tool.proofs.laws.outcomes_rest_on_names.Goals as goal

pub returns : goal.returns
returns c = outcomes_rest
