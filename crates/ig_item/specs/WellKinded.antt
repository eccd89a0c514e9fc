-- Which core grammars are well kinded.
use Rattle.std.specs.Prelude.{◌≡◌, ℕ, ◌<◌, ◌≤◌, List, [], ◌∷◌, length, map, Contains, Some, slice_get}
use Rattle.std.specs.List.{flat_map}
use Rattle.ig_text.specs.declared.tag.Tag.TheVariants.{Rule}
use Rattle.ig_text.specs.Limits.{numbers_end}
use Rattle.ig_expr.specs.declared.kind.Kind.{Kind}
use Rattle.ig_expr.specs.declared.kind.Kind.TheVariants.{Bool}
use Rattle.ig_expr.specs.Kinds.{kind_in}
use Rattle.ig_item.specs.Step.{Step, Test, Bind, Term, Call, names_of}
use Rattle.ig_item.specs.Core.{IsAlternative, dots}
use Rattle.ig_item.specs.Visible.{names_at, kinds_at}
use Rattle.ig_item.specs.declared.core_grammar.Nonterminal.{Nonterminal}
use Rattle.ig_item.specs.declared.core_grammar.CoreAlt.{CoreAlt}
use Rattle.ig_item.specs.Limits.{most_dots}

-- nothing stands twice in the list
abbrev pub NoneTwice : {X : Type 0} → List X → Type 0
NoneTwice {X} xs = (i j : ℕ) (x : X) → slice_get xs i ≡ Some x → slice_get xs j ≡ Some x → i ≡ j

-- nonterminal 0 has no parameters and one alternative, which has no `Bind` and no label
pub record HasRoot (core : List Nonterminal) : Type 0 where
  pub nonterminal : Nonterminal
  pub alternative : CoreAlt
  pub first : slice_get core 0 ≡ Some nonterminal
  pub plain : nonterminal.params ≡ []
  pub single : nonterminal.alternatives ≡ alternative ∷ []
  pub unbound : flat_map names_of alternative.steps ≡ []

-- a condition is a truth value, and what is bound has a kind
abbrev pub ExpressionsFit : List (List ℕ) → List Kind → Step → Type 0
ExpressionsFit names kinds (Test condition) = kind_in names kinds condition ≡ Some Bool
ExpressionsFit names kinds (Bind name value) = (kind : Kind) × (kind_in names kinds value ≡ Some kind)
ExpressionsFit names kinds (Term what label excluded) = Unit {0}
ExpressionsFit names kinds (Call callee arguments label excluded) = Unit {0}

-- a call names a nonterminal that is there, and its arguments have the number and the kinds of the parameters
abbrev pub CallFits : List Nonterminal → List (List ℕ) → List Kind → Step → Type 0
CallFits core names kinds (Test condition) = Unit {0}
CallFits core names kinds (Bind name value) = Unit {0}
CallFits core names kinds (Term what label excluded) = Unit {0}
CallFits core names kinds (Call callee arguments label excluded) =
    (nonterminal : Nonterminal) × (slice_get core callee ≡ Some nonterminal) ×
    (map (kind_in names kinds) arguments ≡ map Some nonterminal.kinds)

-- the step behind a dot fits what is visible there
pub record StepFits (core : List Nonterminal) (nonterminal : Nonterminal) (alternative : CoreAlt) (dot : ℕ) (step : Step) :
    Type 0 where
  pub kinds : List Kind
  pub visible : kinds_at nonterminal alternative dot ≡ Some kinds
  pub expressions : ExpressionsFit (names_at nonterminal alternative dot) kinds step
  pub call : CallFits core (names_at nonterminal alternative dot) kinds step

-- a fact of each alternative, with the number of its nonterminal and its own
abbrev pub OfEach : List Nonterminal → (ℕ → ℕ → Nonterminal → CoreAlt → Type 0) → Type 0
OfEach core P =
    (n a : ℕ) (nonterminal : Nonterminal) (alternative : CoreAlt) → IsAlternative core n a nonterminal alternative →
    P n a nonterminal alternative

pub record IsWellKinded (core : List Nonterminal) : Type 0 where
  pub root : HasRoot core
  -- every nonterminal has as many kinds as parameters
  pub parameters : (nonterminal : Nonterminal) → Contains core nonterminal → length nonterminal.kinds ≡ length nonterminal.params
  -- the names that are visible at one dot differ
  pub names : OfEach core (λ n a nonterminal alternative. (dot : ℕ) → NoneTwice (names_at nonterminal alternative dot))
  -- the tags of one nonterminal differ
  pub tags : OfEach core
      (λ n a nonterminal alternative.
      (b : ℕ) (other : CoreAlt) → IsAlternative core n b nonterminal other → other.tag ≡ alternative.tag → b ≡ a)
  -- a tag `Rule` has the number of the nonterminal in which it stands
  pub rules : OfEach core (λ n a nonterminal alternative. (m k : ℕ) → alternative.tag ≡ Rule m k → m ≡ n)
  -- each call is of a nonterminal that is there, with fitting arguments, and each expression has a kind
  pub steps : OfEach core
      (λ n a nonterminal alternative.
      (dot : ℕ) (step : Step) → slice_get alternative.steps dot ≡ Some step → StepFits core nonterminal alternative dot step)
  pub few_dots : dots core ≤ most_dots
  pub few_nonterminals : length core < numbers_end
