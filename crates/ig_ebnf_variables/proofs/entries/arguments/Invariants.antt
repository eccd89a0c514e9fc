use Rattle.std.proofs.Common.{◌≡◌, ◌++◌, drop}
use Rattle.ig_grammar.specs.Visible.{parameters}
use Rattle.ig_ebnf_variables.specs.Lists.{arguments}
use Rattle.ig_ebnf_variables.proofs.entries.arguments.Given as goal

abbrev pub invariant-loop-param : goal.invariant-loop-param
invariant-loop-param l =
    l.all ++ arguments l.bindings (parameters (drop l.param-index l.params)) ≡ arguments l.bindings
    (parameters l.params)
