-- What the definitions mean: laws of derivations and of permitted trees.
use Rattle.std.specs.Prelude.{◌≡◌, ℕ, ◌≤◌, List, [], ◌∷◌, ◌++◌, Contains, length}
use Rattle.std.specs.List.{flat_map}
use Rattle.ig_text.specs.Input.{Input}
use Rattle.ig_text.specs.declared.tag.Tag.{Tag}
use Rattle.ig_text.specs.declared.tag.Tag.TheVariants.{Root}
use Rattle.ig_text.specs.Tree.{Tree, Trees, Leaf, Node, more}
use Rattle.ig_expr.specs.declared.value.Value.{Value}
use Rattle.ig_grammar.specs.Symbol.{Symbol, Label}
use Rattle.ig_grammar.specs.Subterms.{bound_names}
use Rattle.ig_grammar.specs.Standing.{StandsWell}
use Rattle.ig_meaning.specs.Environment.{Environment, names}
use Rattle.ig_meaning.specs.Derivation.{Covers, Derives, Lists, Items, Instance, Trails, span_value}
use Rattle.ig_meaning.specs.Permitted.{Permitted}
use Rattle.ig_meaning.specs.Clean.{Clean}
use Rattle.ig_grammar.specs.declared.declaration.Assoc.TheVariants.{Free}
use Rattle.ig_grammar.specs.declared.declaration.DeclKind.{DeclKind}
use Rattle.ig_grammar.specs.declared.declaration.Level.{Level}
use Rattle.ig_grammar.specs.declared.declaration.Decl.{Decl}
use Rattle.ig_grammar.specs.declared.grammar.Grammar.{Grammar}
use Rattle.ig_grammar.specs.declared.place.Shape.{Shape}

-- positions in order; in a text of n characters where the first one is
pub record IsInOrder (n i e j : ℕ) : Type 0 where
  pub begins : i ≤ e
  pub ends : e ≤ j
  pub within : i ≤ n → j ≤ n

-- what derivations cover is in order, and what begins in the text ends in it; the own end of a symbol lies between its begin and its end
pub record SpansInOrder (g : Grammar) (shapes : List Shape) (text : Input) : Type 0 where
  pub covers : {c : DeclKind} {xs : List Symbol} {env after : Environment} {i j : ℕ} {ts : Trees} {starts : List ℕ} →
      Covers g shapes text c xs env i j ts after starts → IsInOrder (length text.characters) i j j
  pub derives : {c : DeclKind} {x : Symbol} {env after : Environment} {i e j : ℕ} {ts : Trees} {starts : List ℕ} →
      Derives g shapes text c x env i e j ts after starts → IsInOrder (length text.characters) i e j
  pub lists : {c : DeclKind} {x : Symbol} {env : Environment} {i j : ℕ} {t : Tree} {starts items : List ℕ} →
      Lists g shapes text c x env i j t starts items → IsInOrder (length text.characters) i j j
  pub items : {c : DeclKind} {x : Symbol} {env after : Environment} {i e j : ℕ} {ts : Trees} {starts positions : List ℕ} →
      Items g shapes text c x env i e j ts after starts positions → IsInOrder (length text.characters) i e j
  pub instance : {name : List ℕ} {vs : List Value} {kind : DeclKind} {i e : ℕ} {t : Tree} {starts : List ℕ} →
      Instance g shapes text name vs kind i e t starts → IsInOrder (length text.characters) i e e
  pub trails : {c : DeclKind} {e j : ℕ} {ts : Trees} →
      Trails g shapes text c e j ts → IsInOrder (length text.characters) e j j

abbrev pub SpansAreInOrder : Type 0
SpansAreInOrder = (g : Grammar) (shapes : List Shape) (text : Input) → SpansInOrder g shapes text

-- the second environment is the first with others at its end, which bind these names in this order
pub record GrowsBy (added : List (List ℕ)) (before after : Environment) : Type 0 where
  pub more : Environment
  pub grown : after ≡ before ++ more
  pub named : names more ≡ added

-- what symbols leave is the environment in which they stand, with the names that they bind at its end
pub record EnvironmentsGrowBy (g : Grammar) (shapes : List Shape) (text : Input) : Type 0 where
  pub covers : {c : DeclKind} {xs : List Symbol} {env after : Environment} {i j : ℕ} {ts : Trees} {starts : List ℕ} →
      Covers g shapes text c xs env i j ts after starts → GrowsBy (flat_map bound_names xs) env after
  pub derives : {c : DeclKind} {x : Symbol} {env after : Environment} {i e j : ℕ} {ts : Trees} {starts : List ℕ} →
      Derives g shapes text c x env i e j ts after starts → GrowsBy (bound_names x) env after

abbrev pub EnvironmentsGrow : Type 0
EnvironmentsGrow = (g : Grammar) (shapes : List Shape) (text : Input) → EnvironmentsGrowBy g shapes text

-- each permitted tree is a root over the whole text
abbrev pub PermittedTreesAreWhole : Type 0
PermittedTreesAreWhole =
    (g : Grammar) (shapes : List Shape) (text : Input) (tag : Tag) (i j : ℕ) (children : Trees) →
    Permitted g shapes text (Node tag i j children) → (tag ≡ Root) × (i ≡ 0) × (j ≡ length text.characters)

-- at most one level, which is neither `left` nor `right` nor `nonassoc`
abbrev pub HasNoOperators : List Level → Type 0
HasNoOperators [] = Unit {0}
HasNoOperators (level ∷ []) = level.assoc ≡ Free
HasNoOperators (level ∷ next ∷ others) = ⊥

-- where each declaration is so, every tree is clean, at each of its nodes
abbrev pub TreesWithoutOperatorsAreClean : Type 0
TreesWithoutOperatorsAreClean =
    (g : Grammar) → ((decl : Decl) → Contains g.decls decl → HasNoOperators decl.levels) → (t : Tree) → Clean g t

abbrev pub begin_of : Tree → ℕ
begin_of (Leaf i j) = i
begin_of (Node tag i j children) = i

abbrev pub end_of : Tree → ℕ
end_of (Leaf i j) = j
end_of (Node tag i j children) = j

-- what a label binds last is the span of the first of its trees, which ends at the own end of its symbol
pub record BindsFirstTree (name : List ℕ) (i e : ℕ) (ts : Trees) (after : Environment) : Type 0 where
  pub first : Tree
  pub others : Trees
  pub between : Environment
  pub split : ts ≡ more first others
  pub begin : begin_of first ≡ i
  pub end : end_of first ≡ e
  pub bound : after ≡ between ++ (name, span_value (begin_of first) (end_of first)) ∷ []

-- a label round a symbol that may have one binds the span of the symbol's first tree
abbrev pub LabelsBindOwnSpans : Type 0
LabelsBindOwnSpans =
    (g : Grammar) (shapes : List Shape) (text : Input) (c : DeclKind) (name : List ℕ) (x : Symbol) (env after : Environment)
    (i e j : ℕ) (ts : Trees) (starts : List ℕ) → StandsWell (Label name x) →
    Derives g shapes text c (Label name x) env i e j ts after starts → BindsFirstTree name i e ts after
