-- What one function promises the next; who reads the theorems need not read this file.
-- What the builder knows of the live items of what was recorded.
use Rattle.std.specs.Prelude.{◌≡◌, List, map}
use Rattle.ig_expr.specs.declared.value.Value.{Value}
use Rattle.ig_item.specs.WellKinded.{NoneTwice}
use Rattle.ig_item.specs.Items.{Item}
use Rattle.ig_item.specs.Recorded.{AreReachable, Recording, recording}
use Rattle.ig_item.specs.Tables.{Tables, AreTables, HaveValues, instance_by, items_of}
use Rattle.ig_item.specs.Ways.{AreWays}
use Rattle.ig_forest_live.specs.Lists.{AreLists, ArePlaces}
use Rattle.ig_forest_live.specs.LiveOrder.{AreLiveInOrder}
use Rattle.ig_forest_live.specs.Founds.{number_cmp_in}
use Rattle.ig_forest_live.specs.Marks.{AreMarks}
use Rattle.ig_forest.specs.declared.builder.LiveItems.{LiveItems}
use Rattle.ig_forest_live.specs.declared.found.Found.{Found}

-- the tables of a run, and where each environment stands among the lists in order
pub record AreFound (tables : Tables) (lists : List (List Value)) (found : Found) : Type 0 where
  pub items : found.items.now ≡ tables.items
  pub instances : map (instance_by tables.environments) found.keys.now ≡ tables.instances
  pub values : HaveValues tables.environments found.keys.now
  pub are_tables : AreTables tables
  pub are_lists : AreLists tables.environments lists
  pub places : ArePlaces tables.environments lists found.places.now

abbrev pub lists_in : LiveItems → List (List Value)
lists_in l = map (λ list. list.now) l.lists.now

abbrev pub items_in : LiveItems → List Item
items_in l = items_of l.links.now.tables

-- what was recorded, of that core grammar and that text
abbrev pub recording_in : LiveItems → Recording
recording_in l = recording l.core.now l.text.now l.links.now.tables l.links.now.ways

-- the items are the reachable ones with their ways, and the live ones among them are in the order of their rows
pub record AreLiveItems (l : LiveItems) : Type 0 where
  pub reachable : AreReachable l.core.now l.text.now l.links.now.tables
  pub once : NoneTwice (items_in l)
  pub ways : AreWays l.core.now l.text.now (items_in l) l.links.now.ways
  pub found : AreFound l.links.now.tables (lists_in l) l.found
  pub marks : AreMarks l.core.now l.text.now (items_in l) l.marks.now
  pub order : AreLiveInOrder l.marks.now (number_cmp_in l.found) l.order.now
