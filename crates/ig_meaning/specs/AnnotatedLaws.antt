-- Each derivation binds values, its trees alone determine them, and they are one for each label and let.
use Rattle.std.specs.Prelude.{◌≡◌, ℕ, List}
use Rattle.std.specs.List.{flat_map}
use Rattle.ig_text.specs.Input.{Input}
use Rattle.ig_text.specs.Tree as plain
use Rattle.ig_expr.specs.declared.value.Value.{Value}
use Rattle.ig_grammar.specs.Names.{names, AreDistinct}
use Rattle.ig_grammar.specs.Checked.{FitShapes}
use Rattle.ig_grammar.specs.Numbering.{Levelled, Declares, IsAlternative, tag_of}
use Rattle.ig_grammar.specs.Subterms.{bound_names}
use Rattle.ig_grammar.specs.Symbol.{Symbol}
use Rattle.ig_meaning.specs.Environment as environment
use Rattle.ig_meaning.specs.Environment.{Environment, values}
use Rattle.ig_meaning.specs.Derivation.{Covers, Derives, Instance}
use Rattle.ig_meaning.specs.Permitted.{Permitted}
use Rattle.ig_expr.specs.ValuedTree.{Tree, Trees, Node, bare_tree, bare_trees}
use Rattle.ig_meaning.specs.Annotated.{Bind, Binds, BindApart, Within, Annotates}
use Rattle.ig_meaning.specs.Laws.{GrowsBy}
use Rattle.ig_grammar.specs.declared.declaration.DeclKind.{DeclKind}
use Rattle.ig_grammar.specs.declared.declaration.Decl.{Decl}
use Rattle.ig_grammar.specs.declared.grammar.Grammar.{Grammar}
use Rattle.ig_grammar.specs.declared.place.Shape.{Shape}

-- what is derived is so with values, by the same environments: there are trees that have them, which without them are
-- the trees of the derivation
pub record AreAnnotated (g : Grammar) (shapes : List Shape) (text : Input) : Type 0 where
  pub covers : {c : DeclKind} {xs : List Symbol} {env after : Environment} {i j : ℕ} {ts : plain.Trees} {starts : List ℕ} →
      Covers g shapes text c xs env i j ts after starts →
      (us : Trees) × Bind g shapes text c xs env i j us after × (bare_trees us ≡ ts)
  pub derives : {c : DeclKind} {x : Symbol} {env after : Environment} {i e j : ℕ} {ts : plain.Trees} {starts : List ℕ} →
      Derives g shapes text c x env i e j ts after starts →
      (us : Trees) × Binds g shapes text c x env i e j us after × (bare_trees us ≡ ts)
  pub instance : {name : List ℕ} {vs : List Value} {kind : DeclKind} {i e : ℕ} {t : plain.Tree} {starts : List ℕ} →
      Instance g shapes text name vs kind i e t starts →
      (u : Tree) × Within g shapes text name vs kind i e u × (bare_tree u ≡ t)
  pub permitted : {t : plain.Tree} → Permitted g shapes text t → (u : Tree) × Annotates g shapes text t u

abbrev pub DerivationsAreAnnotated : Type 0
DerivationsAreAnnotated = (g : Grammar) (shapes : List Shape) (text : Input) → AreAnnotated g shapes text

-- trees have the same values, and symbols leave the same environment, whatever the derivation: what stands at one place
-- in one environment, and is the same without values, is the same
pub record AreUnique (g : Grammar) (shapes : List Shape) (text : Input) : Type 0 where
  pub bind : {c : DeclKind} {xs : List Symbol} {env after later : Environment} {i j k : ℕ} {ts us : Trees} →
      Bind g shapes text c xs env i j ts after → Bind g shapes text c xs env i k us later →
      bare_trees ts ≡ bare_trees us → (j ≡ k) × (after ≡ later) × (ts ≡ us)
  pub binds : {c : DeclKind} {x : Symbol} {env after later : Environment} {i e f j k : ℕ} {ts us : Trees} →
      Binds g shapes text c x env i e j ts after → Binds g shapes text c x env i f k us later →
      bare_trees ts ≡ bare_trees us → (e ≡ f) × (j ≡ k) × (after ≡ later) × (ts ≡ us)
  pub within : {name : List ℕ} {vs : List Value} {kind form : DeclKind} {i e f : ℕ} {t u : Tree} →
      Within g shapes text name vs kind i e t → Within g shapes text name vs form i f u → bare_tree t ≡ bare_tree u →
      (kind ≡ form) × (e ≡ f) × (t ≡ u)
  pub annotates : {t : plain.Tree} {u v : Tree} → Annotates g shapes text t u → Annotates g shapes text t v → u ≡ v

-- where no name is declared twice and each declaration is of its shape
abbrev pub AnnotationsAreUnique : Type 0
AnnotationsAreUnique =
    (g : Grammar) (shapes : List Shape) (text : Input) → AreDistinct (names g.decls) → FitShapes g shapes →
    AreUnique g shapes text

-- the values are those of the names that the symbols bind, in this order
pub record AreOf (xs : List Symbol) (bound : List Value) : Type 0 where
  pub added : Environment
  pub named : environment.names added ≡ flat_map bound_names xs
  pub valued : bound ≡ values added

-- a node of the nonterminal has the values that the symbols of one of its alternatives bind, under the tag of this one
pub record HasValues (g : Grammar) (shapes : List Shape) (name : List ℕ) (i e : ℕ) (t : Tree) : Type 0 where
  pub d : ℕ
  pub k : ℕ
  pub decl : Decl
  pub shape : Shape
  pub a : Levelled
  pub bound : List Value
  pub children : Trees
  pub declares : Declares g shapes name d decl shape
  pub numbered : IsAlternative decl k a
  pub node : t ≡ Node (tag_of shape d k) bound i e children
  pub each : AreOf a.alternative.symbols bound

-- each label and each let of an alternative, and of the parts of an option, a list or a group, has one value
pub record AreComplete (g : Grammar) (shapes : List Shape) (text : Input) : Type 0 where
  pub bind : {c : DeclKind} {xs : List Symbol} {env after : Environment} {i j : ℕ} {ts : Trees} →
      Bind g shapes text c xs env i j ts after → GrowsBy (flat_map bound_names xs) env after
  pub apart : {c : DeclKind} {xs : List Symbol} {env : Environment} {i j : ℕ} {ts : Trees} {bound : List Value} →
      BindApart g shapes text c xs env i j ts bound → AreOf xs bound
  pub within : {name : List ℕ} {vs : List Value} {kind : DeclKind} {i e : ℕ} {t : Tree} →
      Within g shapes text name vs kind i e t → HasValues g shapes name i e t

abbrev pub AnnotationsAreComplete : Type 0
AnnotationsAreComplete = (g : Grammar) (shapes : List Shape) (text : Input) → AreComplete g shapes text
