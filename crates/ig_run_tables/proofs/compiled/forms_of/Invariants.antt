use Rattle.std.proofs.Common.{◌≡◌, ◌++◌, drop, map}
use Rattle.ig_expr.specs.View.{expression_of}
use Rattle.ig_run_tables.specs.Compiled.{form_of}
use Rattle.ig_run_tables.proofs.compiled.forms_of.Given as goal

abbrev pub invariant-loop-expression : goal.invariant-loop-expression
invariant-loop-expression l =
    l.forms ++ map (form_of l.names) (map expression_of (drop l.expression-index l.expressions)) ≡
    map (form_of l.names) (map expression_of l.expressions)
