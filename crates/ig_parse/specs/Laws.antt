-- What queries of a forest say of the permitted trees.
use Rattle.std.specs.Prelude.{◌≡◌, ◌↔◌, ◌⊎◌, ℕ, ◌<◌, List, Some, slice_get}
use Rattle.std.specs.declared.cmp.Ordering.TheVariants.{Less}
use Rattle.ig_text.specs.Input.{Input}
use Rattle.ig_text.specs.TagNumber.{number_of}
use Rattle.ig_text.specs.Tree.{Tree, height}
use Rattle.ig_text.specs.declared.tag.Tag.TheVariants.{Rule}
use Rattle.ig_text.specs.declared.text.Span.{Span}
use Rattle.ig_expr.specs.ValueOrder.{values_cmp}
use Rattle.ig_grammar.specs.Checked.{CheckedGrammar}
use Rattle.ig_grammar.specs.Numbering.{IsDeclaration, as_written}
use Rattle.ig_grammar.specs.declared.declaration.Decl.{Decl}
use Rattle.ig_grammar.specs.declared.grammar.Grammar.{Grammar}
use Rattle.ig_meaning.specs.Permitted.{Permitted}
use Rattle.ig_item.specs.WellKinded.{IsWellKinded}
use Rattle.ig_core.specs.Lowered.{CoreOf, IsBuildable, IsNumbered}
use Rattle.ig_core.specs.Notation.{unchanged}
use Rattle.ig_forest_tables.specs.Forest.{Forest, ItemNode, Node}
use Rattle.ig_forest.specs.Reduced.{IsNamed}
use Rattle.ig_forest_tables.specs.Unfold.{IsTrim}
use Rattle.ig_forest_tables.specs.declared.entry.Choice.{Choice}
use Rattle.ig_heights.specs.Heights.{IsCyclic}
use Rattle.ig_query.specs.Ambiguity.{IsAmbiguous}
use Rattle.ig_query.specs.InTrees.{HasNode}
use Rattle.ig_query.specs.Spans.{HasSpan}
use Rattle.ig_parse.specs.Parses.{IsForestOf}

-- two different trees are permitted
pub record PermitsTwo (c : CheckedGrammar) (text : Input) : Type 0 where
  pub first : Tree
  pub second : Tree
  pub first_permitted : Permitted c.grammar c.shapes text first
  pub second_permitted : Permitted c.grammar c.shapes text second
  pub differ : first ≡ second → ⊥

-- a forest has an ambiguous node exactly where two different trees are permitted
abbrev pub AmbiguityIsTwoPermitted : Type 0
AmbiguityIsTwoPermitted =
    (c : CheckedGrammar) (text : Input) (f : Forest) → IsTrim f → IsForestOf c text f → IsAmbiguous f ↔ PermitsTwo c text

-- for each number a higher tree is permitted
abbrev pub HasNoHighest : CheckedGrammar → Input → Type 0
HasNoHighest c text = (h : ℕ) → (t : Tree) × Permitted c.grammar c.shapes text t × (h < height t)

-- a forest is cyclic exactly where for each number a higher tree is permitted
abbrev pub CyclicIsWithoutHighest : Type 0
CyclicIsWithoutHighest =
    (c : CheckedGrammar) (text : Input) (f : Forest) → IsForestOf c text f → IsCyclic f ↔ HasNoHighest c text

-- both alternatives have one tag number, and the item of the first one has the lesser environment
pub record HasLessEnvironment (f : Forest) (first second : Choice) : Type 0 where
  pub one_number : number_of first.tag ≡ number_of second.tag
  pub item : ItemNode
  pub other : ItemNode
  pub there : slice_get f.items first.item ≡ Some item
  pub other_there : slice_get f.items second.item ≡ Some other
  pub less : values_cmp item.env other.env ≡ Less

-- of two alternatives of a node the former one has the lesser tag number, or under one number the lesser environment
abbrev pub AlternativesRiseByTags : Type 0
AlternativesRiseByTags =
    (c : CheckedGrammar) (text : Input) (f : Forest) → IsBuildable c → IsNumbered c → IsForestOf c text f →
    (v i j : ℕ) (node : Node) (first second : Choice) → slice_get f.nodes v ≡ Some node →
    slice_get node.alternatives i ≡ Some first → slice_get node.alternatives j ≡ Some second → i < j →
    (number_of first.tag < number_of second.tag) ⊎ HasLessEnvironment f first second

-- a permitted tree has a node of a declaration of that name with that span
pub record PermitsSpan (c : CheckedGrammar) (text : Input) (name : List ℕ) (span : Span) : Type 0 where
  pub tree : Tree
  pub permitted : Permitted c.grammar c.shapes text tree
  pub nonterminal : ℕ
  pub alternative : ℕ
  pub named : IsNamed (CoreOf c) nonterminal name
  pub has : HasNode (Rule nonterminal alternative) span.begin span.end tree

-- the spans of a declaration's nodes in a forest are exactly those in permitted trees
abbrev pub SpansArePermitted : Type 0
SpansArePermitted =
    (c : CheckedGrammar) (text : Input) (f : Forest) (name : List ℕ) (span : Span) → IsWellKinded (CoreOf c) →
    IsForestOf c text f → HasSpan f name span ↔ PermitsSpan c text name span

-- a permitted tree of the grammar as it is written has a node of the declaration of that name with that span
pub record DeclaresSpan (g : Grammar) (text : Input) (name : List ℕ) (span : Span) : Type 0 where
  pub tree : Tree
  pub permitted : Permitted g (as_written g) text tree
  pub number : ℕ
  pub declaration : Decl
  pub numbered : IsDeclaration g number declaration
  pub named : declaration.name ≡ name
  pub alternative : ℕ
  pub has : HasNode (Rule number alternative) span.begin span.end tree

-- in the forest of such a grammar the spans of a name's nodes are exactly those of the declaration of that name in
-- permitted trees; so names that no declaration has, as that of the root, have none
abbrev pub SpansAreOfDeclarations : Type 0
SpansAreOfDeclarations =
    (g : Grammar) (text : Input) (f : Forest) (name : List ℕ) (span : Span) → IsWellKinded (CoreOf (unchanged g)) →
    IsForestOf (unchanged g) text f → HasSpan f name span ↔ DeclaresSpan g text name span
