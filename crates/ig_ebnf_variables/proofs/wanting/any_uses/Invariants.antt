use Rattle.std.proofs.Common.{◌≡◌, drop, map}
use Rattle.ig_expr.specs.View.{expression_of}
use Rattle.ig_pass.specs.Needs.{any_uses}
use Rattle.ig_ebnf_variables.proofs.wanting.any_uses.Given as goal

abbrev pub invariant-loop-argument : goal.invariant-loop-argument
invariant-loop-argument l =
    any_uses l.name (map expression_of (drop l.argument-index l.arguments)) ≡ any_uses l.name
    (map expression_of l.arguments)
