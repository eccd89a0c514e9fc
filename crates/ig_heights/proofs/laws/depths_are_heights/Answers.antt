use Rattle.ig_heights.proofs.Depths.{depths_are_heights}
use Rattle.ig_heights.proofs.laws.depths_are_heights.Goals as goal

pub returns : goal.returns
returns c = depths_are_heights
