use Rattle.std.proofs.Common.{◌≡◌, length}
use Rattle.ig_forest.proofs.CodeItemNodes.{AreNumbersUpTo}
use Rattle.ig_forest.proofs.item_nodes.numbers_of.Given as goal

abbrev pub invariant-loop-place : goal.invariant-loop-place
invariant-loop-place l =
    record { long : length l.numbers.items ≡ l.count; so_far : AreNumbersUpTo l.order l.place l.numbers.items }
