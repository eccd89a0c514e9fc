-- Ways in which each node has the name that it has in an answer.
use Rattle.std.specs.Prelude.{◌≡◌, ◌≤◌, ℕ, List, Contains, slice_index_or}
use Rattle.ig_item.specs.Ways.{WayLists}
use Rattle.ig_item.specs.declared.ways.FurtherEnd.{FurtherEnd}
use Rattle.ig_run_laws.specs.Renaming.{GivesLeast, renamed}

-- after is before with the least numbers in place of the names
pub record IsRenamed (before after : WayLists) : Type 0 where
  pub least : ℕ → ℕ
  pub gives : GivesLeast before.ends least
  pub is : after ≡ renamed least before

-- no end has a lower number than the first one of its node
abbrev pub AreAbove : List FurtherEnd → Type 0
AreAbove ends = (end : FurtherEnd) → Contains ends end → end.first ≤ end.item

-- the number that a table has at d; d itself behind its end
abbrev pub at_or_same : List ℕ → ℕ → ℕ
at_or_same table d = slice_index_or table d d
