use Rattle.std.proofs.Common.{◌≡◌, ◌++◌, drop, map, Some}
use Rattle.ig_expr.specs.Evaluation.{value_of}
use Rattle.ig_expr.specs.View.{expression_of}
use Rattle.ig_run_tables.proofs.steps.listed_values.Given as goal

abbrev pub invariant-loop-place : goal.invariant-loop-place
invariant-loop-place l =
    map Some l.list ++ map (value_of l.text l.known.names.now l.values l.here) (map expression_of (drop l.place l.arguments)) ≡
    map (value_of l.text l.known.names.now l.values l.here) (map expression_of l.arguments)
