use Rattle.std.proofs.Common.{refl}
use Rattle.ig_text.proofs.text.TextFaultFromAllocError.from.Goals as goal

pub returns : goal.returns
returns c = refl
