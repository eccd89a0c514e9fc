use Rattle.std.proofs.Common.{subst}
use Rattle.std.specs.Prelude.{string_bytes}
use Rattle.ig_show.specs.Appending.{Appends}
use Rattle.ig_show.specs.Steps.{if_ok}
use Rattle.ig_show.proofs.NumberSteps.{two_ends}
use Rattle.ig_show.proofs.spelling.push_range.Goals as goal

pub returns-else-first-last : goal.returns-else-first-last
returns-else-first-last c =
    if_ok c.push_ends.result c.push_ends.ensures
    (λ h.
    subst (Appends (string_bytes c.args.out.now) (string_bytes c.push_ends.new.out))
    (two_ends c.args.first c.args.last c.if-first-last.false) h)
