-- The order in which permitted trees are listed: that of trees with the values that their alternatives bind.
use Rattle.std.specs.Prelude.{◌≡◌, ◌⊎◌, ℕ, List}
use Rattle.std.specs.declared.cmp.Ordering.TheVariants.{Less, Equal}
use Rattle.ig_text.specs.Input.{Input}
use Rattle.ig_text.specs.Tree as plain
use Rattle.ig_expr.specs.TreeOrder.{tree_cmp, children_cmp}
use Rattle.ig_expr.specs.ValuedTree.{Tree, Trees, bare_tree, bare_trees}
use Rattle.ig_meaning.specs.Annotated.{Annotates}
use Rattle.ig_grammar.specs.Names.{names, AreDistinct}
use Rattle.ig_grammar.specs.Checked.{FitShapes}
use Rattle.ig_expr.specs.declared.value.Value.{Value}
use Rattle.ig_grammar.specs.Symbol.{Symbol}
use Rattle.ig_meaning.specs.Environment.{Environment}
use Rattle.ig_meaning.specs.Derivation.{Covers, Derives, Instance}
use Rattle.ig_meaning.specs.Permitted.{Permitted}
use Rattle.ig_grammar.specs.declared.declaration.DeclKind.{DeclKind}
use Rattle.ig_grammar.specs.declared.grammar.Grammar.{Grammar}
use Rattle.ig_grammar.specs.declared.place.Shape.{Shape}

-- the first of two permitted trees stands before the second in a listing: with their values it is less
pub record Precedes (g : Grammar) (shapes : List Shape) (text : Input) (t u : plain.Tree) : Type 0 where
  pub first : Permitted g shapes text t
  pub second : Permitted g shapes text u
  pub one : Tree
  pub other : Tree
  pub of_first : Annotates g shapes text t one
  pub of_second : Annotates g shapes text u other
  pub less : tree_cmp one other ≡ Less

-- two trees of one symbol, over one span, that don't differ with values beside them are equal, and so are two of one
-- list of symbols, of one nonterminal, and two permitted trees
pub record AreToldApart (g : Grammar) (shapes : List Shape) (text : Input) : Type 0 where
  pub covers : {c : DeclKind} {xs : List Symbol} {env other after later : Environment} {i j : ℕ} {ks ls : List ℕ} (ts us : Trees) →
      Covers g shapes text c xs env i j (bare_trees ts) after ks → Covers g shapes text c xs other i j (bare_trees us) later ls →
      children_cmp ts us ≡ Equal → bare_trees ts ≡ bare_trees us
  pub derives : {c : DeclKind} {x : Symbol} {env other after later : Environment} {i e f j : ℕ} {ks ls : List ℕ} (ts us : Trees) →
      Derives g shapes text c x env i e j (bare_trees ts) after ks → Derives g shapes text c x other i f j (bare_trees us) later ls →
      children_cmp ts us ≡ Equal → bare_trees ts ≡ bare_trees us
  pub instance : {name : List ℕ} {vs ws : List Value} {kind form : DeclKind} {i e : ℕ} {ks ls : List ℕ} (t u : Tree) →
      Instance g shapes text name vs kind i e (bare_tree t) ks → Instance g shapes text name ws form i e (bare_tree u) ls →
      tree_cmp t u ≡ Equal → bare_tree t ≡ bare_tree u
  pub permitted : (t u : Tree) → Permitted g shapes text (bare_tree t) → Permitted g shapes text (bare_tree u) →
      tree_cmp t u ≡ Equal → bare_tree t ≡ bare_tree u

-- where no name is declared twice and each declaration is of its shape
abbrev pub UndifferingTreesAreEqual : Type 0
UndifferingTreesAreEqual =
    (g : Grammar) (shapes : List Shape) (text : Input) → AreDistinct (names g.decls) → FitShapes g shapes →
    AreToldApart g shapes text

-- no permitted tree stands before itself, what stands before a tree stands before all behind that one, and of two trees
-- one stands before the other
pub record PrecedesInOrder (g : Grammar) (shapes : List Shape) (text : Input) : Type 0 where
  pub never : (t : plain.Tree) → Precedes g shapes text t t → ⊥
  pub onward : (t u v : plain.Tree) → Precedes g shapes text t u → Precedes g shapes text u v → Precedes g shapes text t v
  pub either : (t u : plain.Tree) → Permitted g shapes text t → Permitted g shapes text u →
      (t ≡ u) ⊎ (Precedes g shapes text t u ⊎ Precedes g shapes text u t)

-- where no name is declared twice and each declaration is of its shape
abbrev pub PermittedTreesAreOrdered : Type 0
PermittedTreesAreOrdered =
    (g : Grammar) (shapes : List Shape) (text : Input) → AreDistinct (names g.decls) → FitShapes g shapes →
    PrecedesInOrder g shapes text
