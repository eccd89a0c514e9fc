-- What the next step of an item makes of it.
use Rattle.std.specs.Prelude.{◌≡◌, ◌↔◌, ℕ, List, [], ◌∷◌, Option, Some, true, option_and_then, slice_get}
use Rattle.ig_text.specs.Input.{Input}
use Rattle.ig_text.specs.Pattern.{Matches}
use Rattle.ig_text.specs.declared.pattern.Pattern.{Pattern}
use Rattle.ig_expr.specs.Expression.{Expression}
use Rattle.ig_expr.specs.declared.value.Value.{Value}
use Rattle.ig_expr.specs.declared.value.Value.TheVariants.{Bool}
use Rattle.ig_item.specs.Step.{Step, Test, Bind, Term, Call}
use Rattle.ig_item.specs.Core.{alternative_at}
use Rattle.ig_item.specs.Items.{Item, Calls, IsComplete, StandsBefore, HasValue, HaveValues, MatchesNone, past, span_of}
use Rattle.ig_item.specs.declared.core_grammar.Nonterminal.{Nonterminal}
use Rattle.ig_item.specs.declared.items.Instance.{Instance}

-- x is the item behind a test, where its condition is true
abbrev pub IsBehindTest : Input → List (List ℕ) → Expression → Item → Item → Type 0
IsBehindTest text names e it x = HasValue text it names e (Bool true) × (x ≡ past it [] it.position)

-- x is the item behind a bind, where its expression has a value
abbrev pub IsBehindBind : Input → List (List ℕ) → Expression → Item → Item → Type 0
IsBehindBind text names e it x = (v : Value) × HasValue text it names e v × (x ≡ past it (v ∷ []) it.position)

-- x is the item behind a terminal of that form
abbrev pub IsBehind : Input → Pattern → Option (List ℕ) → List Pattern → Item → Item → Type 0
IsBehind text what label excluded it x =
    (j : ℕ) × Matches text what it.position j × MatchesNone text excluded it.position j ×
    (x ≡ past it (span_of label it.position j) j)

-- x is the item behind a call with that label, whose callee ended at `end`: the text that it covers is a match of no excluded
-- pattern
abbrev pub IsPastCall : Input → Option (List ℕ) → List Pattern → ℕ → Item → Item → Type 0
IsPastCall text label excluded end it x =
    MatchesNone text excluded it.position end × (x ≡ past it (span_of label it.position end) end)

-- the instance is what a call of that nonterminal with these arguments makes where `it` stands
pub record IsCallee (text : Input) (names : List (List ℕ)) (nonterminal : ℕ) (arguments : List Expression) (it : Item) (callee : Instance) :
    Type 0 where
  pub of : callee.nonterminal ≡ nonterminal
  pub values : HaveValues text it names arguments callee.values
  pub here : callee.start ≡ it.position

-- the step behind a dot
abbrev pub step_at : List Nonterminal → ℕ → ℕ → ℕ → Option Step
step_at core n a dot = option_and_then (λ alternative. slice_get alternative.steps dot) (alternative_at core n a)

-- the step behind a dot is a call with that label and these excluded patterns
pub record IsCallAt (core : List Nonterminal) (n a dot : ℕ) (label : Option (List ℕ)) (excluded : List Pattern) : Type 0 where
  pub callee : ℕ
  pub arguments : List Expression
  pub is : step_at core n a dot ≡ Some (Call callee arguments label excluded)

-- the step behind a dot is a call
abbrev pub HasCall : List Nonterminal → ℕ → ℕ → ℕ → Type 0
HasCall core n a dot = (label : Option (List ℕ)) × (excluded : List Pattern) × IsCallAt core n a dot label excluded

-- the item stands before that step
pub record Stands (core : List Nonterminal) (it : Item) (step : Step) : Type 0 where
  pub names : List (List ℕ)
  pub before : StandsBefore core it names step

-- x follows from `it` alone, which stands before a test or a bind
pub data PassesTo (core : List Nonterminal) (text : Input) (it x : Item) : Type 0 where
  test : (names : List (List ℕ)) (e : Expression) → StandsBefore core it names (Test e) → IsBehindTest text names e it x →
      PassesTo core text it x
  bind : (names : List (List ℕ)) (name : List ℕ) (e : Expression) → StandsBefore core it names (Bind name e) →
      IsBehindBind text names e it x → PassesTo core text it x

-- x follows from `it` alone, which stands before a terminal
pub record ReadsTo (core : List Nonterminal) (text : Input) (it x : Item) : Type 0 where
  pub names : List (List ℕ)
  pub what : Pattern
  pub label : Option (List ℕ)
  pub excluded : List Pattern
  pub before : StandsBefore core it names (Term what label excluded)
  pub is : IsBehind text what label excluded it x

-- no item, and no call
abbrev pub NoItem : Item → Type 0
NoItem x = ⊥

abbrev pub NoCall : Instance → Option (List ℕ) → List Pattern → Type 0
NoCall callee label excluded = ⊥

-- a call with that label and these excluded patterns, of the instance that its arguments make
abbrev pub IsCallBy : Input → List (List ℕ) → ℕ → List Expression → Option (List ℕ) → List Pattern → Item → Instance →
    Option (List ℕ) → List Pattern → Type 0
IsCallBy text names nonterminal arguments label excluded it callee l e =
    (l ≡ label) × (e ≡ excluded) × IsCallee text names nonterminal arguments it callee

-- what comes of an item: to which ones it passes and reads, what it calls, and whether it is complete
pub record Comes (core : List Nonterminal) (text : Input) (it : Item) (passes reads : Item → Type 0)
    (calls : Instance → Option (List ℕ) → List Pattern → Type 0) (ends : Type 0) : Type 0 where
  pub passing : (x : Item) → PassesTo core text it x ↔ passes x
  pub reading : (x : Item) → ReadsTo core text it x ↔ reads x
  pub calling : (callee : Instance) (label : Option (List ℕ)) (excluded : List Pattern) →
      Calls core text it callee label excluded ↔ calls callee label excluded
  pub ending : IsComplete core it ↔ ends
