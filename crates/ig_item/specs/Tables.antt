-- Items that name their instances and environments by number.
use Rattle.std.specs.Prelude.{◌<◌, List, [], map, length, Contains, slice_index_or}
use Rattle.ig_text.specs.Limits.{numbers_end}
use Rattle.ig_expr.specs.declared.value.Value.{Value}
use Rattle.ig_item.specs.Items.{Item, root_instance}
use Rattle.ig_item.specs.declared.items.Instance.{Instance}
use Rattle.ig_item.specs.declared.items.InstanceKey.{InstanceKey}
use Rattle.ig_item.specs.declared.items.InstanceView.{InstanceView}
use Rattle.ig_item.specs.declared.items.Item as stored

-- a table of instances, one of environments, and items that name them by number
pub record Tables : Type 0 where
  pub instances : List Instance
  pub environments : List (List Value)
  pub items : List stored.Item

-- what the items name is in the tables, and each table has fewer than 2 to the power of 32 members
pub record AreTables (tables : Tables) : Type 0 where
  pub instances_there : (x : stored.Item) → Contains tables.items x → x.instance < length tables.instances
  pub environments_there : (x : stored.Item) → Contains tables.items x → x.env < length tables.environments
  pub few_instances : length tables.instances < numbers_end
  pub few_environments : length tables.environments < numbers_end
  pub few_items : length tables.items < numbers_end

-- the item, with its instance and environment out of the tables
abbrev pub item_of : Tables → stored.Item → Item
item_of tables x =
    record {
      instance = slice_index_or tables.instances x.instance root_instance;
      alternative = x.alternative;
      dot = x.dot;
      env = slice_index_or tables.environments x.env [];
      position = x.position;
    }

-- the items in order
abbrev pub items_of : Tables → List Item
items_of tables = map (item_of tables) tables.items

-- the instance whose values are the environment of that number
abbrev pub instance_by : List (List Value) → InstanceKey → Instance
instance_by environments key =
    record {
      nonterminal = key.nonterminal;
      values = slice_index_or environments key.env [];
      start = key.start;
    }

-- each instance's values are an environment of the table
abbrev pub HaveValues : List (List Value) → List InstanceKey → Type 0
HaveValues environments keys = (key : InstanceKey) → Contains keys key → key.env < length environments

-- tables whose instances name their values by number
abbrev pub tables_by : List InstanceKey → List (List Value) → List stored.Item → Tables
tables_by keys environments items =
    record { instances = map (instance_by environments) keys; environments = environments; items = items }

-- the instance that a view shows
abbrev pub instance_of : InstanceView → Instance
instance_of view = record { nonterminal = view.nonterminal; values = view.values.now; start = view.start }
