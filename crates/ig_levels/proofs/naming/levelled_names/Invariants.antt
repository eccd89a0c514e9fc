use Rattle.std.proofs.Common.{drop}
use Rattle.ig_levels.specs.Tables.{Tells}
use Rattle.ig_levels.proofs.naming.levelled_names.Given as goal

abbrev pub invariant-loop-index : goal.invariant-loop-index
invariant-loop-index l = Tells l.table (drop l.index l.decls)
