use Rattle.ig_show.specs.Steps.{if_ok, adds}
use Rattle.ig_show.proofs.grammar.push_parameter.Goals as goal

pub returns : goal.returns
returns c = if_ok c.push_parameter_kind.result c.push_parameter_kind.ensures (λ h. adds c.in_ok-push_name.ensures h)
