-- A run names each node by that of its complete items which was taken first; in its answer the least of them is the name.
use Rattle.std.specs.Prelude.{◌≡◌, ◌⊎◌, ℕ, ◌≤◌, List, map, Contains, nat_eq, if◌then◌else◌}
use Rattle.ig_item.specs.Ways.{WayLists}
use Rattle.ig_item.specs.declared.ways.Way.{Way}
use Rattle.ig_item.specs.declared.ways.Way.TheVariants.{Begin, Pass, Leaf, Node as Tree}
use Rattle.ig_item.specs.declared.ways.FurtherWay.{FurtherWay}
use Rattle.ig_item.specs.declared.ways.FurtherEnd.{FurtherEnd}

-- of the number d, and of the items of those ends whose first item it is, m is the least
pub record IsLeast (ends : List FurtherEnd) (d m : ℕ) : Type 0 where
  pub one : (m ≡ d) ⊎ Contains ends (record { first = d; item = m })
  pub itself : m ≤ d
  pub each : (end : FurtherEnd) → Contains ends end → end.first ≡ d → m ≤ end.item

-- `least` gives that of each number
abbrev pub GivesLeast : List FurtherEnd → (ℕ → ℕ) → Type 0
GivesLeast ends least = (d : ℕ) → IsLeast ends d (least d)

-- the least number in place of the name
abbrev pub renamed_way : (ℕ → ℕ) → Way → Way
renamed_way least Begin = Begin
renamed_way least (Pass k) = Pass k
renamed_way least (Leaf k) = Leaf k
renamed_way least (Tree k d) = Tree k (least d)

abbrev pub renamed_further : (ℕ → ℕ) → FurtherWay → FurtherWay
renamed_further least more = record { item = more.item; prev = more.prev; done = least more.done }

-- and the name in place of the least number
abbrev pub renamed_end : (ℕ → ℕ) → FurtherEnd → FurtherEnd
renamed_end least end =
    record { first = least end.first; item = (if nat_eq end.item (least end.first) then end.first else end.item) }

abbrev pub renamed : (ℕ → ℕ) → WayLists → WayLists
renamed least lists =
    record {
      firsts = map (renamed_way least) lists.firsts;
      further = map (renamed_further least) lists.further;
      ends = map (renamed_end least) lists.ends;
    }
