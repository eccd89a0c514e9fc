use Rattle.std.proofs.Common.{ℕ, ◌<◌}
use Rattle.ig_item.specs.Items.{Reachable}
use Rattle.ig_item.specs.Tables.{items_of}
use Rattle.ig_item.specs.Ways.{IsEnd}
use Rattle.ig_forest_live.specs.Live.{root_key}
use Rattle.ig_forest_live.proofs.root.first_root.Given as goal

abbrev pub invariant-loop-number : goal.invariant-loop-number
invariant-loop-number l =
    (k : ℕ) → k < l.number →
    IsEnd l.recorded.core (Reachable l.recorded.core l.recorded.text) (items_of l.recorded.tables) (root_key l.recorded.text) k → ⊥
