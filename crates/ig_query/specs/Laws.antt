-- What the answers say of the trees of a forest.
use Rattle.std.specs.Prelude.{◌↔◌, ℕ, List}
use Rattle.ig_text.specs.Input.{Input}
use Rattle.ig_text.specs.declared.tag.Tag.{Tag}
use Rattle.ig_text.specs.declared.tag.Tag.TheVariants.{Rule}
use Rattle.ig_text.specs.declared.text.Span.{Span}
use Rattle.ig_item.specs.Core.{IsAlternative}
use Rattle.ig_item.specs.WellKinded.{IsWellKinded}
use Rattle.ig_item.specs.declared.core_grammar.CoreAlt.{CoreAlt}
use Rattle.ig_item.specs.declared.core_grammar.Nonterminal.{Nonterminal}
use Rattle.ig_forest_tables.specs.Forest.{Forest}
use Rattle.ig_forest.specs.Reduced.{IsNamed, IsReduced}
use Rattle.ig_forest_tables.specs.Unfold.{IsTrim}
use Rattle.ig_query.specs.Ambiguity.{IsAmbiguous}
use Rattle.ig_query.specs.InTrees.{ForestHasNode, HasTwoTrees, TreesHaveNode, TreesHaveOneCursor}
use Rattle.ig_query.specs.Spans.{HasSpan, IsRule}

-- the trees of the root have exactly the nodes of the forest, by tag and span
abbrev pub NodesAreThoseOfTrees : Type 0
NodesAreThoseOfTrees = (f : Forest) (tag : Tag) (i j : ℕ) → IsTrim f → ForestHasNode f tag i j ↔ TreesHaveNode f tag i j

-- where one alternative of a nonterminal is one of a declaration, all are
abbrev pub AreUniform : List Nonterminal → Type 0
AreUniform core =
    (n a b : ℕ) (nonterminal other : Nonterminal) (x y : CoreAlt) → IsAlternative core n a nonterminal x →
    IsAlternative core n b other y → IsRule x.tag → IsRule y.tag

-- some tree has a node of a declaration of that name with that span
pub record TreesHaveSpan (core : List Nonterminal) (f : Forest) (name : List ℕ) (span : Span) : Type 0 where
  pub nonterminal : ℕ
  pub alternative : ℕ
  pub named : IsNamed core nonterminal name
  pub has : TreesHaveNode f (Rule nonterminal alternative) span.begin span.end

abbrev pub SpansAreThoseOfTrees : Type 0
SpansAreThoseOfTrees =
    (core : List Nonterminal) (text : Input) (f : Forest) (name : List ℕ) (span : Span) → IsWellKinded core → AreUniform core →
    IsReduced core text f → HasSpan f name span ↔ TreesHaveSpan core f name span

-- a forest whose trees have one cursor each has an ambiguous node exactly where its root has two different trees
abbrev pub AmbiguityIsTwoTrees : Type 0
AmbiguityIsTwoTrees = (f : Forest) → IsTrim f → TreesHaveOneCursor f → IsAmbiguous f ↔ HasTwoTrees f
