use Rattle.std.proofs.Common.{sym}
use Rattle.ig_heights.proofs.Numbers.{read_zero}
use Rattle.ig_heights.proofs.uses.Uses.last.Goals as goal

pub returns : goal.returns
returns c = sym (read_zero c.args.self.now.last.items c.args.part c.index.result.now c.requires c.index.ensures)
