use Rattle.std.proofs.Common.{take}
use Rattle.ig_text.specs.Pairwise.{Each}
use Rattle.ig_forest.specs.CodeItemNodes.{IsStoredItem}
use Rattle.ig_forest.proofs.item_nodes.Sources.item_nodes.Given as goal

abbrev pub invariant-loop-number : goal.invariant-loop-number
invariant-loop-number l = Each (IsStoredItem l.self) (take l.number-index l.order) l.table
