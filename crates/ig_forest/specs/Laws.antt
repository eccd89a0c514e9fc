-- Laws of reduced forests.
use Rattle.std.specs.Prelude.{◌≡◌, ◌↔◌, ℕ, ◌≤◌, List, length, Bool, IsTrue, Some, slice_get}
use Rattle.std.specs.declared.cmp.Ordering.TheVariants as ordering
use Rattle.ig_text.specs.Input.{Input}
use Rattle.ig_text.specs.Tree.{Tree, height}
use Rattle.ig_expr.specs.ValuedTree as valued
use Rattle.ig_expr.specs.TreeOrder.{tree_cmp}
use Rattle.ig_item.specs.Annotated.{Annotates}
use Rattle.ig_item.specs.CoreTrees.{CoreTree}
use Rattle.ig_item.specs.Items.{Item, IsCompleteRoot, Reachable, RootIsComplete}
use Rattle.ig_item.specs.TagOrder.{TagsRise}
use Rattle.ig_item.specs.WellKinded.{IsWellKinded}
use Rattle.ig_item.specs.declared.core_grammar.Nonterminal.{Nonterminal}
use Rattle.ig_forest_tables.specs.Forest.{Forest, Node, ItemNode, item_of}
use Rattle.ig_forest_tables.specs.Unfold.{Unfold, Unfolds, HasNoDeadPart, HasTrees, IsTrim}
use Rattle.ig_item.specs.Gives.{NodeKey, Taken, tree, Completes}
use Rattle.ig_forest_live.specs.Live.{Gives, IsLive}
use Rattle.ig_forest.specs.Reduced.{IsReduced}
use Rattle.ig_forest.specs.Cursors.{Less}

-- the reduced forest unfolds, to a depth, to exactly the core trees that are no higher
abbrev pub UnfoldsToCoreTrees : Type 0
UnfoldsToCoreTrees =
    (core : List Nonterminal) (text : Input) (f : Forest) (d : ℕ) (t : Tree) → IsWellKinded core → IsReduced core text f →
    Unfolds f d t ↔ (CoreTree core text t × (height t ≤ d))

-- a tree has one cursor there, the same one for each depth
abbrev pub HasOneCursor : Type 0
HasOneCursor =
    (core : List Nonterminal) (text : Input) (f : Forest) (d e : ℕ) (cs ds : List ℕ) (t : Tree) → IsWellKinded core →
    IsReduced core text f → Unfold f d cs t → Unfold f e ds t → cs ≡ ds

-- where the tags of each nonterminal rise, the cursors of trees are in the order of the trees with their values
abbrev pub CursorsAreOrderedAsTrees : Type 0
CursorsAreOrderedAsTrees =
    (core : List Nonterminal) (text : Input) (f : Forest) (d e : ℕ) (cs ds : List ℕ) (t u : Tree) (a b : valued.Tree) →
    IsWellKinded core → TagsRise core → IsReduced core text f → Unfold f d cs t → Unfold f e ds u →
    Annotates core text t a → Annotates core text u b → Less cs ds ↔ (tree_cmp a b ≡ ordering.Less)

-- the reduced forest is a forest, no part of it is dead, and items come behind the previous ones
abbrev pub ReducedIsTrim : Type 0
ReducedIsTrim =
    (core : List Nonterminal) (text : Input) (f : Forest) → IsWellKinded core → IsReduced core text f → IsTrim f

-- each node and each item node of a forest without dead parts has trees
abbrev pub TrimHasTrees : Type 0
TrimHasTrees = (f : Forest) → HasNoDeadPart f → HasTrees f

-- no two nodes have one instance and one end, and no two item nodes have one item
pub record NoKeyTwice (f : Forest) : Type 0 where
  pub nodes : (i j : ℕ) (x y : Node) → slice_get f.nodes i ≡ Some x → slice_get f.nodes j ≡ Some y →
      x.nonterminal ≡ y.nonterminal → x.values ≡ y.values → x.span ≡ y.span → i ≡ j
  pub items : (i j : ℕ) (x y : ItemNode) → slice_get f.items i ≡ Some x → slice_get f.items j ≡ Some y →
      item_of x ≡ item_of y → i ≡ j

abbrev pub ReducedHasNoKeyTwice : Type 0
ReducedHasNoKeyTwice = (core : List Nonterminal) (text : Input) (f : Forest) → IsReduced core text f → NoKeyTwice f

-- a core grammar and a text have one reduced forest at most, so one text of it
abbrev pub OnlyOne : Type 0
OnlyOne =
    (core : List Nonterminal) (text : Input) (f g : Forest) → IsReduced core text f → IsReduced core text g → f ≡ g

-- where there is one, a complete root item over the whole text is reachable
abbrev pub RootIsThere : Type 0
RootIsThere = (core : List Nonterminal) (text : Input) (f : Forest) → IsReduced core text f → RootIsComplete core text

-- live items are reachable
abbrev pub LiveIsReachable : Type 0
LiveIsReachable = (core : List Nonterminal) (text : Input) (x : Item) → IsLive core text x → Reachable core text x

-- the collection has the complete root item over the whole text, and with each item the previous ones and the complete
-- ones over which these have a tree
pub record HasUsedItems (core : List Nonterminal) (text : Input) (has : Item → Bool) : Type 0 where
  pub root : (x : Item) → Reachable core text x → IsCompleteRoot core x → x.position ≡ length text.characters → IsTrue (has x)
  pub previous : (x prev : Item) (taken : Taken) → IsTrue (has x) → Gives core text prev taken x → IsTrue (has prev)
  pub child : (x prev done : Item) (key : NodeKey) → IsTrue (has x) → Gives core text prev (tree key) x →
      Reachable core text done → Completes core done key → IsTrue (has done)

-- each such collection has all live items
abbrev pub LiveIsLeast : Type 0
LiveIsLeast =
    (core : List Nonterminal) (text : Input) (has : Item → Bool) → HasUsedItems core text has → (x : Item) →
    IsLive core text x → IsTrue (has x)
