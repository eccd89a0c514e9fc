use Rattle.std.specs.Str.{chars}
use Rattle.ig_show.specs.Steps.{nothing_appended}
use Rattle.ig_show.proofs.spelling.push_negation.Goals as goal

pub returns-then-negated : goal.returns-then-negated
unfolding chars
returns-then-negated c = rw c.if-negated.true c.push_text.ensures

pub returns-else-negated : goal.returns-else-negated
returns-else-negated c = rw c.if-negated.false nothing_appended
