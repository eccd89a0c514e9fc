use Rattle.ig_forest.specs.CodeNodes.{NodesUpTo}
use Rattle.ig_forest.proofs.nodes.nodes_of.Given as goal

abbrev pub invariant-loop-place : goal.invariant-loop-place
invariant-loop-place l =
    NodesUpTo l.core l.found.items.now l.found.keys.now l.found.places.now l.order l.place l.nodes.table l.nodes.numbers.items
