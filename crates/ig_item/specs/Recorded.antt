-- What a run records: the items that are reachable, and how they came about.
use Rattle.std.specs.Prelude.{◌↔◌, ℕ, List, Contains}
use Rattle.ig_text.specs.Input.{Input}
use Rattle.ig_item.specs.WellKinded.{NoneTwice}
use Rattle.ig_item.specs.Items.{Item, Reachable}
use Rattle.ig_item.specs.Tables.{Tables, items_of}
use Rattle.ig_item.specs.Ways.{WayLists, AreWays}
use Rattle.ig_item.specs.declared.core_grammar.Nonterminal.{Nonterminal}

-- the items and the ways that were recorded of a core grammar and a text
pub record Recording : Type 0 where
  pub core : List Nonterminal
  pub text : Input
  pub tables : Tables
  pub ways : WayLists

abbrev pub recording : List Nonterminal → Input → Tables → WayLists → Recording
recording core text tables ways = record { core = core; text = text; tables = tables; ways = ways }

-- the items of the tables are exactly the reachable ones
abbrev pub AreReachable : List Nonterminal → Input → Tables → Type 0
AreReachable core text tables = (x : Item) → Contains (items_of tables) x ↔ Reachable core text x

-- the items are the reachable ones, nothing stands twice in a table, and the ways are those of the items
pub record IsRecorded (r : Recording) : Type 0 where
  pub reachable : AreReachable r.core r.text r.tables
  pub once : NoneTwice (items_of r.tables)
  pub instances : NoneTwice r.tables.instances
  pub environments : NoneTwice r.tables.environments
  pub are_ways : AreWays r.core r.text (items_of r.tables) r.ways
