use Rattle.std.proofs.Common.{◌<◌, All, take}
use Rattle.ig_forest_tables.specs.declared.entry.Choice.{Choice}
use Rattle.ig_forest_reader.proofs.checks.choices_fit.Given as goal

abbrev pub invariant-loop-choice : goal.invariant-loop-choice
invariant-loop-choice l = All (λ (choice : Choice). choice.item < l.items) (take l.choice-index l.choices)
