use Rattle.std.proofs.Common.{refl}
use Rattle.ig_blocks_parts.proofs.pairs.opened.Goals as goal

pub returns : goal.returns
returns c = refl
