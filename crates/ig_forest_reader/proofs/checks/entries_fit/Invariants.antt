use Rattle.std.proofs.Common.{All, take}
use Rattle.ig_forest_tables.specs.Forest.{EntryFits}
use Rattle.ig_forest_reader.proofs.checks.entries_fit.Given as goal

abbrev pub invariant-loop-entry : goal.invariant-loop-entry
invariant-loop-entry l = All (EntryFits l.forest l.dot) (take l.entry-index l.entries)
