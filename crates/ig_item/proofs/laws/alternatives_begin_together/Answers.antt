use Rattle.ig_item.proofs.Roots.{alternatives_begin}
use Rattle.ig_item.proofs.laws.alternatives_begin_together.Goals as goal

pub returns : goal.returns
returns c = alternatives_begin
