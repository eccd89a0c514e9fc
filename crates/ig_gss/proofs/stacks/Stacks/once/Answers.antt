use Rattle.std.proofs.Common.{subst}
use Rattle.ig_gss.specs.Nodes.{AreOnce}
use Rattle.ig_gss.proofs.stacks.Stacks.once.Goals as goal

pub returns : goal.returns
returns c = subst AreOnce c.self.view_is c.self.invariant.once
