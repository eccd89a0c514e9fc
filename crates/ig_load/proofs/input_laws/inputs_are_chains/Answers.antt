use Rattle.ig_load.proofs.Inputs.{inputs_are_chains}
use Rattle.ig_load.proofs.input_laws.inputs_are_chains.Goals as goal

pub returns : goal.returns
returns c = inputs_are_chains
