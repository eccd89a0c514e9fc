use Rattle.std.specs.Str.{chars}
use Rattle.ig_show.specs.Steps.{if_ok, adds}
use Rattle.ig_show.proofs.grammar.push_level.Goals as goal

pub returns : goal.returns
unfolding chars
returns c = if_ok c.push_alternatives.result c.push_alternatives.ensures (λ h. adds c.in_ok-push_associativity.ensures h)
