-- Drafts, and which of them are sound: five rules, each of a node or of an item.
use Rattle.std.specs.Prelude.{◌≡◌, ℕ, List, [], ◌∷◌, ◌++◌, length, All, Some, slice_get}
use Rattle.ig_text.specs.Input.{Input}
use Rattle.ig_expr.specs.declared.value.Value.{Value}
use Rattle.ig_item.specs.Gives.{NodeKey, Taken, nothing, leaf, tree, Completes}
use Rattle.ig_item.specs.Laws.{EnvironmentFits, IsInText}
use Rattle.ig_item.specs.declared.core_grammar.Nonterminal.{Nonterminal}
use Rattle.ig_forest_tables.specs.Forest.{Forest, Node, ItemNode, IsForest, item_of}
use Rattle.ig_forest_tables.specs.declared.entry.Choice.{Choice}
use Rattle.ig_forest_tables.specs.declared.entry.Entry.{Entry}
use Rattle.ig_forest_tables.specs.declared.entry.Entry.TheVariants.{Begin, Pass, Take}
use Rattle.ig_forest_tables.specs.declared.entry.Child.TheVariants as child
use Rattle.ig_verify.specs.Takes.{Takes}

-- a forest, in any order and with dead parts, whose environments begin with the values of their items
pub record IsDraft (f : Forest) : Type 0 where
  pub forest : IsForest f
  pub begins : (k : ℕ) (it : ItemNode) → slice_get f.items k ≡ Some it → (bound : List Value) × (it.env ≡ it.values ++ bound)

-- the instance and the end of a node
abbrev pub key_of : Node → NodeKey
key_of node =
    record {
      instance = record { nonterminal = node.nonterminal; values = node.values; start = node.span.begin };
      end = node.span.end;
    }

-- 1. the root's node is of nonterminal 0 without values, over the whole text
pub record IsWhole (text : Input) (node : Node) : Type 0 where
  pub of_root : node.nonterminal ≡ 0
  pub plain : node.values ≡ []
  pub begin : node.span.begin ≡ 0
  pub end : node.span.end ≡ length text.characters

-- 2. an alternative's item is a complete one of the node, and the tag is that of the item's alternative
pub record ChoiceFits (core : List Nonterminal) (f : Forest) (node : Node) (choice : Choice) : Type 0 where
  pub it : ItemNode
  pub there : slice_get f.items choice.item ≡ Some it
  pub completes : Completes core (item_of it) (key_of node)
  pub tagged : choice.tag ≡ completes.complete.alternative.tag

abbrev pub ChoicesFit : List Nonterminal → Forest → Node → Type 0
ChoicesFit core f node = All (ChoiceFits core f node) node.alternatives

-- 3. the item's alternative and dot are there, its values have the kinds that they ask, and its positions are in the text
pub record ItemFits (core : List Nonterminal) (text : Input) (it : ItemNode) : Type 0 where
  pub environment : EnvironmentFits core (item_of it)
  pub positions : IsInText text (item_of it)

-- 4. an item of dot 0 is the first of its alternative, with the entry `Begin` alone
pub record IsFirst (it : ItemNode) : Type 0 where
  pub entries : it.entries ≡ Begin ∷ []
  pub here : it.position ≡ it.start
  pub unbound : it.env ≡ it.values

-- a step leads from that item to this one, and takes this
pub record ComesFrom (core : List Nonterminal) (text : Input) (f : Forest) (it : ItemNode) (prev : ℕ) (taken : Taken) :
    Type 0 where
  pub before : ItemNode
  pub there : slice_get f.items prev ≡ Some before
  pub takes : Takes core text (item_of before) taken (item_of it)

-- 5. the step leads from the entry's item to this one, and takes the entry's child
abbrev pub EntryFollows : List Nonterminal → Input → Forest → ItemNode → Entry → Type 0
EntryFollows core text f it Begin = it.dot ≡ 0
EntryFollows core text f it (Pass prev) = ComesFrom core text f it prev nothing
EntryFollows core text f it (Take prev (child.Leaf span)) = ComesFrom core text f it prev (leaf span)
EntryFollows core text f it (Take prev (child.Node v)) =
    (node : Node) × (slice_get f.nodes v ≡ Some node) × ComesFrom core text f it prev (tree (key_of node))

abbrev pub EntriesFollow : List Nonterminal → Input → Forest → ItemNode → Type 0
EntriesFollow core text f it = All (EntryFollows core text f it) it.entries

-- the rules 1 and 2 at a node
pub record NodeHolds (core : List Nonterminal) (text : Input) (f : Forest) (v : ℕ) (node : Node) : Type 0 where
  pub root : v ≡ f.root → IsWhole text node
  pub choices : ChoicesFit core f node

-- the rules 4 and 5 at an item
pub record EntriesHold (core : List Nonterminal) (text : Input) (f : Forest) (it : ItemNode) : Type 0 where
  pub begin : it.dot ≡ 0 → IsFirst it
  pub further : (it.dot ≡ 0 → ⊥) → EntriesFollow core text f it

-- all five rules hold
pub record IsSound (core : List Nonterminal) (text : Input) (f : Forest) : Type 0 where
  pub nodes : (v : ℕ) (node : Node) → slice_get f.nodes v ≡ Some node → NodeHolds core text f v node
  pub items : (k : ℕ) (it : ItemNode) → slice_get f.items k ≡ Some it → ItemFits core text it
  pub entries : (k : ℕ) (it : ItemNode) → slice_get f.items k ≡ Some it → EntriesHold core text f it
