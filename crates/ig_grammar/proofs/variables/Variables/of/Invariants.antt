use Rattle.std.proofs.Common.{◌≡◌, take}
use Rattle.ig_grammar.specs.Visible.{parameters}
use Rattle.ig_grammar.proofs.variables.Variables.of.Given as goal

abbrev pub invariant-loop-param : goal.invariant-loop-param
invariant-loop-param l = l.variables ≡ parameters (take l.param-index l.params)
