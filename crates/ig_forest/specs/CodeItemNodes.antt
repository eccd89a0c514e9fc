-- What one function promises the next; who reads the theorems need not read this file.
-- The entries of live items, made from their ways.
use Rattle.std.specs.Prelude.{◌≡◌, ◌↔◌, ℕ, ◌<◌, List, ◌∷◌, [], ◌++◌, length, Contains, Some, slice_get, slice_index}
use Rattle.std.specs.List.Sorted.{IsStrictlySortedBy}
use Rattle.ig_item.specs.Ways.{WayTo}
use Rattle.ig_item.specs.declared.ways.Way.{Way}
use Rattle.ig_item.specs.declared.ways.Way.TheVariants as way
use Rattle.ig_item.specs.declared.ways.FurtherWay.{FurtherWay}
use Rattle.ig_forest_tables.specs.Orders.{entry_cmp, previous}
use Rattle.ig_forest_live.specs.Founds.{IsThereIn, row_in}
use Rattle.ig_forest_live.specs.Rows.{item_at}
use Rattle.ig_forest_tables.specs.StoredItems.{StoredItem}
use Rattle.ig_forest_tables.specs.declared.entry.Entry.{Entry}
use Rattle.ig_forest_tables.specs.declared.entry.Entry.TheVariants.{Begin, Pass, Take}
use Rattle.ig_forest_tables.specs.declared.entry.Child.TheVariants as child
use Rattle.ig_forest.specs.declared.item_nodes.Sources.{Sources}

-- the number that stands at a place has that place as its own number
abbrev pub AreNumbers : List ℕ → List ℕ → Type 0
AreNumbers order numbers = (place k : ℕ) → slice_get order place ≡ Some k → slice_get numbers k ≡ Some place

-- the entries of one previous item are one
abbrev pub AreFromOne : List Entry → Type 0
AreFromOne entries = (e f : Entry) → Contains entries e → Contains entries f → previous e ≡ previous f → e ≡ f

module _ (s : Sources) where
  -- the number in the forest of an item of the run
  abbrev pub number_by : ℕ → ℕ
  number_by k = slice_index s.numbers.now k

  -- the number of the node of a complete item of the run
  abbrev pub node_by : ℕ → ℕ
  node_by k = slice_index s.nodes.now (number_by k)

  -- the entry of a way to an item at that position
  abbrev pub entry_by : ℕ → Way → Entry
  entry_by position way.Begin = Begin
  entry_by position (way.Pass prev) = Pass (number_by prev)
  entry_by position (way.Leaf prev) =
      Take (number_by prev) (child.Leaf (record { begin = (item_at s.found.items.now prev).position; end = position }))
  entry_by position (way.Node prev done) = Take (number_by prev) (child.Node (node_by done))

  -- the entry of a further way
  abbrev pub further_entry : FurtherWay → Entry
  further_entry more = entry_by 0 (way.Node more.prev more.done)

  -- what the way names is there
  abbrev pub WayFits : Way → Type 0
  WayFits way.Begin = Unit {0}
  WayFits (way.Pass prev) = prev < length s.numbers.now
  WayFits (way.Leaf prev) = (prev < length s.numbers.now) × (prev < length s.found.items.now)
  WayFits (way.Node prev done) =
      (prev < length s.numbers.now) × (done < length s.numbers.now) × (number_by done < length s.nodes.now)

  -- what the ways to live items name is there, and two ways from one previous item have one entry
  pub record AreSources : Type 0 where
    pub there : (k : ℕ) → Contains s.order.now k → IsThereIn s.found k
    pub found : (k : ℕ) → Contains s.order.now k → k < length s.links.now.ways.firsts
    pub fit : (k : ℕ) (way : Way) → Contains s.order.now k → WayTo s.links.now.ways k way → WayFits way
    pub one : (k position : ℕ) (v w : Way) → Contains s.order.now k → WayTo s.links.now.ways k v → WayTo s.links.now.ways k w →
        previous (entry_by position v) ≡ previous (entry_by position w) → entry_by position v ≡ entry_by position w

  -- the entries are those of the ways to the item of that number, each once, in order
  pub record AreEntriesOf (k : ℕ) (entries : List Entry) : Type 0 where
    pub members : (e : Entry) → Contains entries e ↔
        ((way : Way) × WayTo s.links.now.ways k way × (e ≡ entry_by (item_at s.found.items.now k).position way))
    pub order : IsStrictlySortedBy entry_cmp entries

  -- the item of that number with its entries
  pub record IsStoredItem (k : ℕ) (stored : StoredItem) : Type 0 where
    pub row : stored.row ≡ row_in s.found k
    pub entries : AreEntriesOf k stored.entries

  -- the item of that number was added
  pub record AddsItem (k : ℕ) (before after : List StoredItem) : Type 0 where
    pub stored : StoredItem
    pub is : IsStoredItem k stored
    pub added : after ≡ before ++ stored ∷ []
