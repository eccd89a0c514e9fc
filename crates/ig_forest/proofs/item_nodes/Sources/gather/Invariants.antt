use Rattle.std.proofs.Common.{◌+◌, ◌≤◌, length}
use Rattle.ig_forest.proofs.CodeItemNodes.{AreGathered}
use Rattle.ig_forest.proofs.item_nodes.Sources.gather.Given as goal

abbrev pub invariant-loop-turn : goal.invariant-loop-turn
invariant-loop-turn l = record {
  within : l.begin + l.turn ≤ length l.further;
  gathered : AreGathered l.self l.further l.begin (l.begin + l.turn) l.entries.items;
}
