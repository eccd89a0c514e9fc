use Rattle.std.proofs.Common.{subst}
use Rattle.ig_text.specs.Input.{KeepsLimits}
use Rattle.ig_text.proofs.text.Text.len.Goals as goal

pub returns-clause-limits : goal.returns-clause-limits
returns-clause-limits c =
    subst KeepsLimits c.self.view_is (record { few = c.self.invariant.indexed.few; width = c.self.invariant.width })
