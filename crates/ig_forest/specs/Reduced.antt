-- The reduced forest of a core grammar and a text. Its members and their orders are given, so it is a function of both.
use Rattle.std.specs.Prelude.{◌≡◌, ◌↔◌, ℕ, List, Contains, Some, slice_get, option_map}
use Rattle.std.specs.List.Sorted.{IsStrictlySortedBy}
use Rattle.ig_text.specs.Input.{Input}
use Rattle.ig_text.specs.declared.text.Span.{Span}
use Rattle.ig_text.specs.Pairwise.{Each}
use Rattle.ig_item.specs.Items.{Item}
use Rattle.ig_item.specs.declared.core_grammar.Nonterminal.{Nonterminal}
use Rattle.ig_forest_tables.specs.Forest.{Forest, Node, ItemNode, item_of}
use Rattle.ig_item.specs.Gives.{NodeKey, nothing, leaf, tree, Completes}
use Rattle.ig_forest_live.specs.Live.{Gives, IsLive, root_key}
use Rattle.ig_forest_tables.specs.Orders.{item_cmp, node_cmp, choice_cmp, entry_cmp}
use Rattle.ig_forest_tables.specs.declared.entry.Choice.{Choice}
use Rattle.ig_forest_tables.specs.declared.entry.Entry.{Entry}
use Rattle.ig_forest_tables.specs.declared.entry.Entry.TheVariants.{Begin, Pass, Take}
use Rattle.ig_forest_tables.specs.declared.entry.Child.TheVariants as child

-- nonterminal n has that name
abbrev pub IsNamed : List Nonterminal → ℕ → List ℕ → Type 0
IsNamed core n name = option_map (λ nonterminal. nonterminal.name) (slice_get core n) ≡ Some name

-- the items are the live ones, in order
pub record AreItems (core : List Nonterminal) (text : Input) (items : List Item) : Type 0 where
  pub members : (x : Item) → Contains items x ↔ IsLive core text x
  pub order : IsStrictlySortedBy item_cmp items

-- the nodes are the instances and ends of the complete items among these, in order
pub record AreNodes (core : List Nonterminal) (items : List Item) (nodes : List NodeKey) : Type 0 where
  pub members : (key : NodeKey) → Contains nodes key ↔ ((x : Item) × Contains items x × Completes core x key)
  pub order : IsStrictlySortedBy node_cmp nodes

-- an alternative of a node: the number of one of its complete items, with the tag of the item's alternative
pub record IsChoice (core : List Nonterminal) (items : List Item) (key : NodeKey) (choice : Choice) : Type 0 where
  pub item : Item
  pub numbered : slice_get items choice.item ≡ Some item
  pub completes : Completes core item key
  pub tagged : choice.tag ≡ completes.complete.alternative.tag

pub record IsNode (core : List Nonterminal) (items : List Item) (key : NodeKey) (node : Node) : Type 0 where
  pub name : IsNamed core key.instance.nonterminal node.name
  pub nonterminal : node.nonterminal ≡ key.instance.nonterminal
  pub values : node.values ≡ key.instance.values
  pub begin : node.span.begin ≡ key.instance.start
  pub end : node.span.end ≡ key.end
  pub choices : (choice : Choice) → Contains node.alternatives choice ↔ IsChoice core items key choice
  pub order : IsStrictlySortedBy choice_cmp node.alternatives

-- an entry of an item: it is a first one, or one of the rules gives it from a previous one
pub data IsEntry (core : List Nonterminal) (text : Input) (items : List Item) (nodes : List NodeKey) (x : Item) :
    Entry → Type 0 where
  begin : (e : Entry) → x.dot ≡ 0 → e ≡ Begin → IsEntry core text items nodes x e
  pass : (k : ℕ) (prev : Item) (e : Entry) → slice_get items k ≡ Some prev → Gives core text prev nothing x →
      e ≡ Pass k → IsEntry core text items nodes x e
  take_leaf : (k : ℕ) (prev : Item) (span : Span) (e : Entry) → slice_get items k ≡ Some prev →
      Gives core text prev (leaf span) x → e ≡ Take k (child.Leaf span) → IsEntry core text items nodes x e
  take_node : (k v : ℕ) (prev : Item) (key : NodeKey) (e : Entry) → slice_get items k ≡ Some prev →
      slice_get nodes v ≡ Some key → Gives core text prev (tree key) x → e ≡ Take k (child.Node v) →
      IsEntry core text items nodes x e

pub record IsItemNode (core : List Nonterminal) (text : Input) (items : List Item) (nodes : List NodeKey) (x : Item)
    (it : ItemNode) : Type 0 where
  pub name : IsNamed core x.instance.nonterminal it.name
  pub item : item_of it ≡ x
  pub entries : (e : Entry) → Contains it.entries e ↔ IsEntry core text items nodes x e
  pub order : IsStrictlySortedBy entry_cmp it.entries

-- there is one where a complete root item over the whole text is reachable; its root node is the root's over the whole text
pub record IsReduced (core : List Nonterminal) (text : Input) (f : Forest) : Type 0 where
  pub items : List Item
  pub keys : List NodeKey
  pub are_items : AreItems core text items
  pub are_nodes : AreNodes core items keys
  pub item_nodes : Each (IsItemNode core text items keys) items f.items
  pub nodes : Each (IsNode core items) keys f.nodes
  pub root : slice_get keys f.root ≡ Some (root_key text)
