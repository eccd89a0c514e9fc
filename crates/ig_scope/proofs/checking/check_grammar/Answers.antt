use Rattle.std.proofs.Common.{◌∙◌}
use Rattle.ig_scope.proofs.checking.check_grammar.Goals as goal

pub check_declared-requires : goal.check_declared-requires
check_declared-requires c = record { same = c.in_ok-declarations.ensures ∙ c.as_slice.ensures; regular = c.requires }
