-- What one function promises the next; who reads the theorems need not read this file.
use Rattle.std.specs.Prelude.{◌≡◌, suc}
use Rattle.ig_item.specs.Items.{Item}
use Rattle.ig_item.specs.Gives.{NodeKey}
use Rattle.ig_forest_tables.specs.Forest.{item_of}
use Rattle.ig_forest_tables.specs.Views.{item_node_view, node_view}
use Rattle.ig_forest_tables.specs.declared.views.ItemNode.{ItemNode}
use Rattle.ig_forest_tables.specs.declared.views.Node.{Node}
use Rattle.ig_verify.specs.Sound.{key_of}

-- the item of a view
abbrev pub shown : ItemNode → Item
shown v = item_of (item_node_view v)

-- the key of a view
abbrev pub shown_key : Node → NodeKey
shown_key v = key_of (node_view v)

-- both items are of one alternative of one instance, the second one a dot further
pub record IsNext (it to : Item) : Type 0 where
  pub instance : to.instance ≡ it.instance
  pub alternative : to.alternative ≡ it.alternative
  pub dot : to.dot ≡ suc it.dot
