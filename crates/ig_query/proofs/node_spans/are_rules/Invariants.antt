use Rattle.std.proofs.Common.{take, Contains}
use Rattle.ig_forest_tables.specs.declared.entry.Choice.{Choice}
use Rattle.ig_query.specs.Spans.{IsRule}
use Rattle.ig_query.proofs.node_spans.are_rules.Given as goal

abbrev pub invariant-loop-choice : goal.invariant-loop-choice
invariant-loop-choice l = (choice : Choice) → Contains (take l.choice-index l.alternatives) choice → IsRule choice.tag
