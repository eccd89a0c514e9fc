use Rattle.std.proofs.Common.{ap, ◌∙◌}
use Rattle.ig_grammar.specs.Visible.{parameters}
use Rattle.ig_scope.proofs.alternatives.check_alternatives.Goals as goal

pub check_levels-requires : goal.check_levels-requires
check_levels-requires c = c.in_ok-variables.ensures ∙ ap parameters c.as_slice.ensures
