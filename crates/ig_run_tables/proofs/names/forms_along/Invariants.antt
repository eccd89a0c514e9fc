use Rattle.std.proofs.Common.{◌≡◌, ◌++◌, drop, map}
use Rattle.ig_item.specs.View.{step_of}
use Rattle.ig_run_tables.specs.Compiled.{forms_along}
use Rattle.ig_run_tables.proofs.names.forms_along.Given as goal

abbrev pub invariant-loop-dot : goal.invariant-loop-dot
invariant-loop-dot l =
    l.rows ++ forms_along (drop l.dot l.names) (drop l.dot (map step_of l.steps)) ≡ forms_along l.names (map step_of l.steps)
