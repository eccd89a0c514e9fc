-- Items of a core grammar and a text, and which of them are reachable.
use Rattle.std.specs.Prelude.{◌≡◌, ℕ, suc, ◌<◌, List, [], ◌∷◌, ◌++◌, map, length, take, Contains, Option, Some, None, slice_get, true}
use Rattle.std.specs.List.{All}
use Rattle.ig_text.specs.Input.{Input}
use Rattle.ig_text.specs.Pattern.{Matches}
use Rattle.ig_text.specs.declared.pattern.Pattern.{Pattern}
use Rattle.ig_expr.specs.Expression.{Expression}
use Rattle.ig_expr.specs.Evaluation.{value_of}
use Rattle.ig_expr.specs.declared.value.Value.{Value}
use Rattle.ig_expr.specs.declared.value.Value.TheVariants.{Bool, Span}
use Rattle.ig_item.specs.Step.{Step, Test, Bind, Term, Call}
use Rattle.ig_item.specs.Core.{IsAlternative}
use Rattle.ig_item.specs.Visible.{names_at}
use Rattle.ig_item.specs.WellKinded.{NoneTwice}
use Rattle.ig_item.specs.declared.core_grammar.Nonterminal.{Nonterminal}
use Rattle.ig_item.specs.declared.core_grammar.CoreAlt.{CoreAlt}
use Rattle.ig_item.specs.declared.items.Instance.{Instance}

-- an alternative, numbered from 1, of an instance: a nonterminal, its argument values and where it starts; a dot in it,
-- numbered from 0; an environment: the parameters' values, then those bound so far; and the position reached
pub record Item : Type 0 where
  pub instance : Instance
  pub alternative : ℕ
  pub dot : ℕ
  pub env : List Value
  pub position : ℕ

-- the root, called at 0
abbrev pub root_instance : Instance
root_instance = record { nonterminal = 0; values = []; start = 0 }

-- the first item of an alternative of an instance
abbrev pub first : Instance → ℕ → Item
first instance alternative =
    record { instance = instance; alternative = alternative; dot = 0; env = instance.values; position = instance.start }

-- the item after the next step, which bound these values and came to j
abbrev pub past : Item → List Value → ℕ → Item
past it bound j = record it { dot = suc it.dot; env = it.env ++ bound; position = j }

-- what a label binds: the span from i to j
abbrev pub span_of : Option (List ℕ) → ℕ → ℕ → List Value
span_of None i j = []
span_of (Some name) i j = Span (record { begin = i; end = j }) ∷ []

-- the text from i to j is a match of none of the patterns
abbrev pub MatchesNone : Input → List Pattern → ℕ → ℕ → Type 0
MatchesNone text patterns i j = All (λ pattern. Matches text pattern i j → ⊥) patterns

-- the item stands before that step, and these names are visible there
pub record StandsBefore (core : List Nonterminal) (it : Item) (names : List (List ℕ)) (step : Step) : Type 0 where
  pub nonterminal : Nonterminal
  pub alternative : CoreAlt
  pub has : IsAlternative core it.instance.nonterminal it.alternative nonterminal alternative
  pub next : slice_get alternative.steps it.dot ≡ Some step
  pub visible : names ≡ names_at nonterminal alternative it.dot

-- the item stands behind the last step
pub record IsComplete (core : List Nonterminal) (it : Item) : Type 0 where
  pub nonterminal : Nonterminal
  pub alternative : CoreAlt
  pub has : IsAlternative core it.instance.nonterminal it.alternative nonterminal alternative
  pub last : it.dot ≡ length alternative.steps

-- the item is a complete one of the root
pub record IsCompleteRoot (core : List Nonterminal) (it : Item) : Type 0 where
  pub of_root : it.instance ≡ root_instance
  pub complete : IsComplete core it

-- the expression has this value where the item stands, with these names
abbrev pub HasValue : Input → Item → List (List ℕ) → Expression → Value → Type 0
HasValue text it names e v = value_of text names it.env it.position e ≡ Some v

-- the expressions have these values where the item stands, with these names
abbrev pub HaveValues : Input → Item → List (List ℕ) → List Expression → List Value → Type 0
HaveValues text it names es vs = map (value_of text names it.env it.position) es ≡ map Some vs

-- the item stands before a call of that instance, with this label and these excluded patterns
pub record Calls (core : List Nonterminal) (text : Input) (it : Item) (instance : Instance) (label : Option (List ℕ))
    (excluded : List Pattern) : Type 0 where
  pub names : List (List ℕ)
  pub arguments : List Expression
  pub before : StandsBefore core it names (Call instance.nonterminal arguments label excluded)
  pub values : HaveValues text it names arguments instance.values
  pub here : instance.start ≡ it.position

-- the item follows by one rule from known ones
pub data Follows (core : List Nonterminal) (text : Input) (known : Item → Type 0) : Item → Type 0 where
  -- (1) the first item of the root at 0
  root : (x : Item) → x ≡ first root_instance 1 → Follows core text known x
  -- (2) before a test whose condition is true: the item after it
  test : (it : Item) (names : List (List ℕ)) (e : Expression) (x : Item) → known it → StandsBefore core it names (Test e) →
      HasValue text it names e (Bool true) → x ≡ past it [] it.position → Follows core text known x
  -- (3) before a bind with a value: the item after it, with the value added
  bind : (it : Item) (names : List (List ℕ)) (name : List ℕ) (e : Expression) (v : Value) (x : Item) → known it →
      StandsBefore core it names (Bind name e) → HasValue text it names e v → x ≡ past it (v ∷ []) it.position →
      Follows core text known x
  -- (4) before a terminal that matches from here to j, where that text is a match of no excluded pattern: the item after
  -- it at j, with the span added where it has a label
  terminal : (it : Item) (names : List (List ℕ)) (what : Pattern) (label : Option (List ℕ)) (excluded : List Pattern) (j : ℕ)
      (x : Item) → known it → StandsBefore core it names (Term what label excluded) → Matches text what it.position j →
      MatchesNone text excluded it.position j → x ≡ past it (span_of label it.position j) j → Follows core text known x
  -- (5) before a call whose arguments all have values: the first item of each alternative of the callee's instance here
  call : (it : Item) (callee : Instance) (label : Option (List ℕ)) (excluded : List Pattern) (nonterminal : Nonterminal)
      (a : ℕ) (alternative : CoreAlt) (x : Item) → known it → Calls core text it callee label excluded →
      IsAlternative core callee.nonterminal a nonterminal alternative → x ≡ first callee a → Follows core text known x
  -- (6) before such a call, with a complete item of the callee's instance at j, where the text from here to j is a match
  -- of no excluded pattern: the item after it at j, with the span added where it has a label
  return : (it done : Item) (label : Option (List ℕ)) (excluded : List Pattern) (x : Item) → known it → known done →
      Calls core text it done.instance label excluded → IsComplete core done →
      MatchesNone text excluded it.position done.position →
      x ≡ past it (span_of label it.position done.position) done.position → Follows core text known x

module _ (core : List Nonterminal) (text : Input) where
  -- each item of the list follows from those before it
  abbrev pub IsDerivation : List Item → Type 0
  IsDerivation xs = (k : ℕ) (x : Item) → slice_get xs k ≡ Some x → Follows core text (Contains (take k xs)) x

  -- the item is in such a list
  pub record Reachable (x : Item) : Type 0 where
    pub items : List Item
    pub derivation : IsDerivation items
    pub among : Contains items x

  -- more than b different items are reachable
  pub record MoreThan (b : ℕ) : Type 0 where
    pub items : List Item
    pub different : NoneTwice items
    pub reachable : (x : Item) → Contains items x → Reachable x
    pub more : b < length items

  -- a complete item of the root over the whole text is reachable
  pub record RootIsComplete : Type 0 where
    pub item : Item
    pub reachable : Reachable item
    pub root : IsCompleteRoot core item
    pub to_end : item.position ≡ length text.characters
