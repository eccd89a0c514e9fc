use Rattle.ig_forest_tables.proofs.StoredNodeParts.{ArePutUpTo}
use Rattle.ig_forest_tables.proofs.node_rows.put_all_in_order.Given as goal

abbrev pub invariant-loop-k : goal.invariant-loop-k
invariant-loop-k l = ArePutUpTo l.begun l.k l.initial.choices l.choices
