use Rattle.ig_heights.proofs.Depths.{none_above_nodes}
use Rattle.ig_heights.proofs.laws.none_above_nodes.Goals as goal

pub returns : goal.returns
returns c = none_above_nodes
