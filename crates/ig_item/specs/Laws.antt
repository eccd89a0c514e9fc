-- Laws of core grammars and of reachable items.
use Rattle.std.specs.Prelude.{◌≡◌, ◌↔◌, ℕ, suc, ◌+◌, ◌≤◌, List, [], ◌∷◌, ◌++◌, map, length, take, Contains, Bool, IsTrue, Some, slice_get}
use Rattle.std.specs.List.{flat_map}
use Rattle.ig_text.specs.Input.{Input}
use Rattle.ig_text.specs.Tree as plain
use Rattle.ig_text.specs.Tree.{Tree, Trees}
use Rattle.ig_expr.specs.declared.value.Value.{Value}
use Rattle.ig_expr.specs.declared.kind.Kind.{Kind}
use Rattle.ig_expr.specs.Kinds.{kind_of_value}
use Rattle.ig_expr.specs.Evaluation.{value_of}
use Rattle.ig_expr.specs.ValuedTree as valued
use Rattle.ig_expr.specs.ValuedTree.{bare_trees}
use Rattle.ig_item.specs.Core.{IsAlternative}
use Rattle.ig_item.specs.Step.{Step, Test, Bind, Term, Call, names_of}
use Rattle.ig_item.specs.Visible.{names_at, names_at_dots, kinds_at}
use Rattle.ig_item.specs.WellKinded.{IsWellKinded, NoneTwice, StepFits}
use Rattle.ig_item.specs.Fitting.{AreFit}
use Rattle.ig_item.specs.Behind.{Next, End, behind_item}
use Rattle.ig_item.specs.CoreTrees.{HasTree, CoreTree}
use Rattle.ig_item.specs.Annotated.{Leaves, Within}
use Rattle.ig_item.specs.ItemTrees.{Comes, Completes}
use Rattle.ig_item.specs.Items.{Item, first, span_of, Follows, Reachable, StandsBefore, IsComplete, RootIsComplete}
use Rattle.ig_item.specs.declared.core_grammar.Nonterminal.{Nonterminal}
use Rattle.ig_item.specs.declared.core_grammar.CoreAlt.{CoreAlt}
use Rattle.ig_item.specs.declared.items.Instance.{Instance}

-- an alternative is one by its numbers
pub record Same (nonterminal other : Nonterminal) (alternative second : CoreAlt) : Type 0 where
  pub nonterminals : nonterminal ≡ other
  pub alternatives : alternative ≡ second

abbrev pub AlternativesAreOne : Type 0
AlternativesAreOne =
    (core : List Nonterminal) (n a : ℕ) (nonterminal other : Nonterminal) (alternative second : CoreAlt) →
    IsAlternative core n a nonterminal alternative → IsAlternative core n a other second →
    Same nonterminal other alternative second

-- behind a step the names that it binds are visible, too
abbrev pub NamesGrow : Type 0
NamesGrow =
    (nonterminal : Nonterminal) (alternative : CoreAlt) (dot : ℕ) (step : Step) →
    slice_get alternative.steps dot ≡ Some step →
    names_at nonterminal alternative (suc dot) ≡ names_at nonterminal alternative dot ++ names_of step

-- the list of what is visible at each dot has what is visible at the dot, in its place
pub record AreNamesAt (nonterminal : Nonterminal) (alternative : CoreAlt) : Type 0 where
  pub number : length (names_at_dots nonterminal.params alternative.steps) ≡ length alternative.steps + 1
  pub each : (dot : ℕ) → dot ≤ length alternative.steps →
      slice_get (names_at_dots nonterminal.params alternative.steps) dot ≡ Some (names_at nonterminal alternative dot)

abbrev pub NamesAreAtDots : Type 0
NamesAreAtDots = (nonterminal : Nonterminal) (alternative : CoreAlt) → AreNamesAt nonterminal alternative

-- where each step fits what is visible before it, the step behind each dot does
abbrev pub StepsFit : Type 0
StepsFit =
    (core : List Nonterminal) (nonterminal : Nonterminal) (alternative : CoreAlt) →
    AreFit core nonterminal.params nonterminal.kinds alternative.steps →
    (dot : ℕ) (step : Step) → slice_get alternative.steps dot ≡ Some step → StepFits core nonterminal alternative dot step

-- where the names that are visible behind the last step differ, those at each dot do
abbrev pub NamesDiffer : Type 0
NamesDiffer =
    (nonterminal : Nonterminal) (alternative : CoreAlt) →
    NoneTwice (nonterminal.params ++ flat_map names_of alternative.steps) →
    (dot : ℕ) → NoneTwice (names_at nonterminal alternative dot)

-- what is looked up behind the item's dot tells whether it stands before a step, and before which, or is complete
pub record BehindTells (core : List Nonterminal) (it : Item) : Type 0 where
  pub next : (step : Step) → ((names : List (List ℕ)) × StandsBefore core it names step) ↔ (behind_item core it ≡ Some (Next step))
  pub end : IsComplete core it ↔ (behind_item core it ≡ Some End)

abbrev pub BehindIsLookedUp : Type 0
BehindIsLookedUp = (core : List Nonterminal) (it : Item) → BehindTells core it

-- an item stands before one step, where the same names are visible
abbrev pub StandsBeforeOne : Type 0
StandsBeforeOne =
    (core : List Nonterminal) (it : Item) (names others : List (List ℕ)) (step next : Step) →
    StandsBefore core it names step → StandsBefore core it others next → (names ≡ others) × (step ≡ next)

-- what follows by one rule from reachable items is reachable
abbrev pub ReachableIsClosed : Type 0
ReachableIsClosed =
    (core : List Nonterminal) (text : Input) (x : Item) → Follows core text (Reachable core text) x → Reachable core text x

-- each reachable item follows by one rule from reachable items
abbrev pub ReachableFollows : Type 0
ReachableFollows =
    (core : List Nonterminal) (text : Input) (x : Item) → Reachable core text x → Follows core text (Reachable core text) x

-- each collection that has what follows from its items has all reachable items
abbrev pub ReachableIsLeast : Type 0
ReachableIsLeast =
    (core : List Nonterminal) (text : Input) (has : Item → Bool) →
    ((x : Item) → Follows core text (λ y. IsTrue (has y)) x → IsTrue (has x)) →
    (x : Item) → Reachable core text x → IsTrue (has x)

-- what follows from some items follows from more
abbrev pub MoreGivesNoLess : Type 0
MoreGivesNoLess =
    (core : List Nonterminal) (text : Input) (few many : List Item) → ((x : Item) → Contains few x → Contains many x) →
    (x : Item) → Follows core text (Contains few) x → Follows core text (Contains many) x

-- the position of an item is not before the start of its instance, and within the text
pub record IsInText (text : Input) (x : Item) : Type 0 where
  pub onward : x.instance.start ≤ x.position
  pub within : x.position ≤ length text.characters

abbrev pub ItemsAreInText : Type 0
ItemsAreInText = (core : List Nonterminal) (text : Input) (x : Item) → Reachable core text x → IsInText text x

-- the item's alternative and dot are there; its arguments have the kinds of the parameters, and its environment has a
-- value of its kind for each name that is visible at the dot
pub record EnvironmentFits (core : List Nonterminal) (x : Item) : Type 0 where
  pub nonterminal : Nonterminal
  pub alternative : CoreAlt
  pub kinds : List Kind
  pub has : IsAlternative core x.instance.nonterminal x.alternative nonterminal alternative
  pub within : x.dot ≤ length alternative.steps
  pub arguments : map kind_of_value x.instance.values ≡ nonterminal.kinds
  pub visible : kinds_at nonterminal alternative x.dot ≡ Some kinds
  pub values : map kind_of_value x.env ≡ kinds
  pub names : length x.env ≡ length (names_at nonterminal alternative x.dot)

-- an environment begins with the values of the instance, and what steps bind stands behind them
abbrev pub EnvironmentsGrow : Type 0
EnvironmentsGrow =
    (core : List Nonterminal) (text : Input) (x : Item) → Reachable core text x →
    (bound : List Value) × (x.env ≡ x.instance.values ++ bound)

-- in a well-kinded core grammar
abbrev pub EnvironmentsFit : Type 0
EnvironmentsFit =
    (core : List Nonterminal) (text : Input) (x : Item) → IsWellKinded core → Reachable core text x → EnvironmentFits core x

-- in a well-kinded core grammar a complete item of the root over the whole text is reachable exactly where there is a tree
abbrev pub TreesByItems : Type 0
TreesByItems =
    (core : List Nonterminal) (text : Input) → IsWellKinded core →
    RootIsComplete core text ↔ ((t : Tree) × CoreTree core text t)

-- an item is reachable exactly where the first item of its alternative is, and the steps before its dot lead from there to it
abbrev pub ItemsByTrees : Type 0
ItemsByTrees =
    (core : List Nonterminal) (text : Input) (x : Item) →
    Reachable core text x ↔
    ((Reachable core text (first x.instance x.alternative)) × (ts : Trees) × (Comes core text x ts))

-- a tree of an instance is one through which the steps of an alternative lead
abbrev pub InstanceTrees : Type 0
InstanceTrees =
    (core : List Nonterminal) (text : Input) (instance : Instance) (j : ℕ) (t : Tree) →
    HasTree core text instance.nonterminal instance.values instance.start j t ↔ Completes core text instance j t

-- in a well-kinded core grammar the first items of all alternatives of an instance are reachable together
abbrev pub AlternativesBegin : Type 0
AlternativesBegin =
    (core : List Nonterminal) (text : Input) (instance : Instance) (a b : ℕ) (nonterminal : Nonterminal) (alternative : CoreAlt) →
    IsWellKinded core → Reachable core text (first instance a) →
    IsAlternative core instance.nonterminal b nonterminal alternative → Reachable core text (first instance b)

-- in a well-kinded core grammar there is at most one complete item of the root for each start and position
abbrev pub CompleteRootsAreOne : Type 0
CompleteRootsAreOne =
    (core : List Nonterminal) (text : Input) (x y : Item) → IsWellKinded core → Reachable core text x →
    Reachable core text y → x.instance.nonterminal ≡ 0 → y.instance ≡ x.instance → y.position ≡ x.position →
    IsComplete core x → IsComplete core y → x ≡ y

module _ (core : List Nonterminal) (text : Input) (names : List (List ℕ)) (env : List Value) where
  -- what one step alone leaves, and which trees it has
  abbrev pub LeavesAlone : Step → ℕ → ℕ → valued.Trees → List Value → Type 0
  LeavesAlone (Test e) i j ts after = (j ≡ i) × (ts ≡ valued.none) × (after ≡ env)
  LeavesAlone (Bind name e) i j ts after =
      (v : Value) × (value_of text names env i e ≡ Some v) × (j ≡ i) × (ts ≡ valued.none) × (after ≡ env ++ v ∷ [])
  LeavesAlone (Term what label excluded) i j ts after =
      (ts ≡ valued.one (valued.Leaf i j)) × (after ≡ env ++ span_of label i j)
  LeavesAlone (Call callee arguments label excluded) i j ts after =
      (vs : List Value) × (t : valued.Tree) × (map (value_of text names env i) arguments ≡ map Some vs) ×
      Within core text callee vs i j t × (ts ≡ valued.one t) × (after ≡ env ++ span_of label i j)

-- what the steps before the last one leave, and what the last one leaves from there
pub record LeaveInTurn (core : List Nonterminal) (text : Input) (names : List (List ℕ)) (env : List Value)
    (steps : List Step) (last : Step) (i j : ℕ) (ts : valued.Trees) (after : List Value) : Type 0 where
  pub between : List Value
  pub h : ℕ
  pub us : valued.Trees
  pub vs : valued.Trees
  pub first : Leaves core text names env steps i h us between
  pub alone : LeavesAlone core text (names ++ flat_map names_of steps) between last h j vs after
  pub joined : ts ≡ valued.join us vs
  pub bare : bare_trees ts ≡ plain.join (bare_trees us) (bare_trees vs)

abbrev pub StepsLeaveInTurn : Type 0
StepsLeaveInTurn =
    (core : List Nonterminal) (text : Input) (names : List (List ℕ)) (env : List Value) (steps : List Step) (last : Step)
    (i j : ℕ) (ts : valued.Trees) (after : List Value) → Leaves core text names env (steps ++ last ∷ []) i j ts after →
    LeaveInTurn core text names env steps last i j ts after

-- where the steps before an item's dot lead to it with some trees, and leave values with those, they come to the item's
-- position and leave its environment
abbrev pub StepsLeaveEnvironments : Type 0
StepsLeaveEnvironments =
    (core : List Nonterminal) (text : Input) (x : Item) (us : Trees) (nonterminal : Nonterminal) (alternative : CoreAlt)
    (j : ℕ) (ts : valued.Trees) (after : List Value) →
    IsAlternative core x.instance.nonterminal x.alternative nonterminal alternative → Comes core text x us →
    Leaves core text nonterminal.params x.instance.values (take x.dot alternative.steps) x.instance.start j ts after →
    bare_trees ts ≡ us → (j ≡ x.position) × (after ≡ x.env)
