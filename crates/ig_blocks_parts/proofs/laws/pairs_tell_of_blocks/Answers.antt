use Rattle.ig_blocks_parts.proofs.Around.{pairs_tell}
use Rattle.ig_blocks_parts.proofs.laws.pairs_tell_of_blocks.Goals as goal

pub returns : goal.returns
returns c = pairs_tell
