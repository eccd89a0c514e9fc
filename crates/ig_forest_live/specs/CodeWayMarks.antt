-- How the live items are marked: along the ways back from the root.
use Rattle.std.specs.Prelude.{◌≡◌, ◌↔◌, ◌⊎◌, ℕ, List, length, filter, true, Some, Contains, slice_get}
use Rattle.ig_item.specs.Recorded.{Recording, IsRecorded}
use Rattle.ig_item.specs.Ways.{WayLists, WayTo}
use Rattle.ig_item.specs.declared.ways.Way.{Way}
use Rattle.ig_item.specs.declared.ways.Way.TheVariants.{Begin, Pass, Leaf, Node}
use Rattle.ig_item.specs.declared.ways.FurtherEnd.{FurtherEnd}
use Rattle.ig_forest_live.specs.Marks.{IsMarked, is_live}
use Rattle.ig_forest_live.specs.declared.mark.Mark.{Mark}
use Rattle.ig_forest_live.specs.declared.mark.Mark.TheVariants.{Open, Complete}
use Rattle.ig_forest_live.specs.declared.marks.Walk.{Walk}

-- the way is one of a recording
pub record IsAWay (r : Recording) (way : Way) : Type 0 where
  pub recorded : IsRecorded r
  pub number : ℕ
  pub to : WayTo r.ways number way

-- the previous item of the way has that number
abbrev pub HasPrev : Way → ℕ → Type 0
HasPrev Begin k = ⊥
HasPrev (Pass prev) k = prev ≡ k
HasPrev (Leaf prev) k = prev ≡ k
HasPrev (Node prev done) k = prev ≡ k

module _ (lists : WayLists) where
  -- the complete items of a node, by the first one
  pub data OfNode (done : ℕ) (k : ℕ) (mark : Mark) : Type 0 where
    first : k ≡ done → mark ≡ Complete → OfNode done k mark
    further : (end : FurtherEnd) → Contains lists.ends end → end.first ≡ done → k ≡ end.item → mark ≡ Complete → OfNode done k mark

  -- to which items the way leads back, and how they are marked
  pub data Leads (way : Way) (k : ℕ) (mark : Mark) : Type 0 where
    previous : HasPrev way k → mark ≡ Open → Leads way k mark
    child : (prev done : ℕ) → way ≡ Node prev done → OfNode done k mark → Leads way k mark

  -- to which items the ways to an item lead back
  pub record LeadsFrom (number k : ℕ) (mark : Mark) : Type 0 where
    pub way : Way
    pub to : WayTo lists number way
    pub leads : Leads way k mark

  -- with the first complete item of a node all others are marked
  abbrev pub AreWhole : List Mark → Type 0
  AreWhole marks = (end : FurtherEnd) → Contains lists.ends end → IsMarked marks end.first → IsMarked marks end.item

-- the found numbers are those that are marked, each once
pub record AreFound (w : Walk) (count : ℕ) : Type 0 where
  pub long : length w.marks.items ≡ count
  pub same : (k : ℕ) → Contains w.found.items k ↔ IsMarked w.marks.items k
  pub counted : length w.found.items ≡ length (filter is_live w.marks.items)

-- the item of that number alone, with that mark
abbrev pub ThatItem : ℕ → Mark → ℕ → Mark → Type 0
ThatItem number mark k m = (k ≡ number) × (m ≡ mark)

-- exactly the numbers with P were marked besides, with their marks, and the earlier ones are found where they were
pub record MarksMore (before after : Walk) (P : ℕ → Mark → Type 0) : Type 0 where
  pub found : AreFound after (length before.marks.items)
  pub new : (k : ℕ) (mark : Mark) → slice_get after.marks.items k ≡ Some mark → is_live mark ≡ true →
      (slice_get before.marks.items k ≡ Some mark) ⊎ P k mark
  pub all : (k : ℕ) (mark : Mark) → P k mark → IsMarked after.marks.items k
  pub begins : (i v : ℕ) → slice_get before.found.items i ≡ Some v → slice_get after.found.items i ≡ Some v
