use Rattle.std.proofs.Common.{◌≡◌, ◌++◌, drop}
use Rattle.ig_run_laws.proofs.tables.table_of.Given as goal

abbrev pub invariant-loop-values : goal.invariant-loop-values
invariant-loop-values l = l.table ++ drop l.values-index l.envs ≡ l.envs
