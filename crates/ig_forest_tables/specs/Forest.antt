-- Forests: shared packed parse forests, binarised.
use Rattle.std.specs.Prelude.{◌≡◌, ℕ, suc, ◌<◌, List, [], ◌∷◌, length, Contains, Some, slice_get}
use Rattle.ig_text.specs.declared.text.Span.{Span}
use Rattle.ig_text.specs.Limits.{numbers_end}
use Rattle.ig_expr.specs.declared.value.Value.{Value}
use Rattle.ig_item.specs.Items.{Item}
use Rattle.ig_forest_tables.specs.declared.entry.Choice.{Choice}
use Rattle.ig_forest_tables.specs.declared.entry.Entry.{Entry}
use Rattle.ig_forest_tables.specs.declared.entry.Entry.TheVariants.{Begin, Pass, Take}
use Rattle.ig_forest_tables.specs.declared.entry.Child.TheVariants as child

-- the trees of a nonterminal with these argument values over a span, by alternatives
pub record Node : Type 0 where
  pub name : List ℕ
  pub nonterminal : ℕ
  pub values : List Value
  pub span : Span
  pub alternatives : List Choice

-- the lists of trees of the steps before an item's dot, by entries
pub record ItemNode : Type 0 where
  pub name : List ℕ
  pub nonterminal : ℕ
  pub values : List Value
  pub start : ℕ
  pub alternative : ℕ
  pub dot : ℕ
  pub env : List Value
  pub position : ℕ
  pub entries : List Entry

-- the number of the root node; the nodes and the item nodes, each numbered from 0
pub record Forest : Type 0 where
  pub root : ℕ
  pub nodes : List Node
  pub items : List ItemNode

-- the item of an item node
abbrev pub item_of : ItemNode → Item
item_of it =
    record {
      instance = record { nonterminal = it.nonterminal; values = it.values; start = it.start };
      alternative = it.alternative;
      dot = it.dot;
      env = it.env;
      position = it.position;
    }

-- that item node is there, with its dot one step before this one
pub record IsPrevious (f : Forest) (dot prev : ℕ) : Type 0 where
  pub it : ItemNode
  pub there : slice_get f.items prev ≡ Some it
  pub behind : dot ≡ suc it.dot

-- what an entry names is there
abbrev pub EntryFits : Forest → ℕ → Entry → Type 0
EntryFits f dot Begin = dot ≡ 0
EntryFits f dot (Pass prev) = IsPrevious f dot prev
EntryFits f dot (Take prev (child.Node v)) = IsPrevious f dot prev × (v < length f.nodes)
EntryFits f dot (Take prev (child.Leaf span)) = IsPrevious f dot prev

-- all numbers are in range; an item at dot 0 has a `Begin` alone, and any other one has entries whose previous item
-- stands one dot before it
pub record IsForest (f : Forest) : Type 0 where
  pub root : f.root < length f.nodes
  pub alternatives : (v : ℕ) (node : Node) (choice : Choice) → slice_get f.nodes v ≡ Some node →
      Contains node.alternatives choice → choice.item < length f.items
  pub begin : (k : ℕ) (it : ItemNode) → slice_get f.items k ≡ Some it → it.dot ≡ 0 → it.entries ≡ Begin ∷ []
  pub entries : (k : ℕ) (it : ItemNode) (e : Entry) → slice_get f.items k ≡ Some it → Contains it.entries e →
      EntryFits f it.dot e

-- the previous item has a smaller number
abbrev pub PreviousIsBefore : ℕ → Entry → Type 0
PreviousIsBefore k Begin = Unit {0}
PreviousIsBefore k (Pass prev) = prev < k
PreviousIsBefore k (Take prev child) = prev < k

-- so a walk along previous items ends
abbrev pub PreviousAreBefore : Forest → Type 0
PreviousAreBefore f =
    (k : ℕ) (it : ItemNode) (e : Entry) → slice_get f.items k ≡ Some it → Contains it.entries e → PreviousIsBefore k e

-- all lists have fewer than 2 to the power of 32 members, so numbers of 32 bits serve
pub record IsShort (f : Forest) : Type 0 where
  pub nodes : length f.nodes < numbers_end
  pub items : length f.items < numbers_end
  pub alternatives : (v : ℕ) (node : Node) → slice_get f.nodes v ≡ Some node → length node.alternatives < numbers_end
  pub entries : (k : ℕ) (it : ItemNode) → slice_get f.items k ≡ Some it → length it.entries < numbers_end
