-- Which item gives which by a rule, and what the step between them takes.
use Rattle.std.specs.Prelude.{◌≡◌, ℕ, List, [], ◌∷◌, Option, true}
use Rattle.ig_text.specs.Input.{Input}
use Rattle.ig_text.specs.Pattern.{Matches}
use Rattle.ig_text.specs.declared.pattern.Pattern.{Pattern}
use Rattle.ig_text.specs.declared.text.Span.{Span}
use Rattle.ig_expr.specs.Expression.{Expression}
use Rattle.ig_expr.specs.declared.value.Value.{Value}
use Rattle.ig_expr.specs.declared.value.Value.TheVariants.{Bool}
use Rattle.ig_item.specs.Step.{Test, Bind, Term}
use Rattle.ig_item.specs.Items.{Item, past, span_of, MatchesNone, StandsBefore, IsComplete, HasValue, Calls}
use Rattle.ig_item.specs.declared.core_grammar.Nonterminal.{Nonterminal}
use Rattle.ig_item.specs.declared.items.Instance.{Instance}

-- an instance, and the position to which its trees come: the key of a node
pub record NodeKey : Type 0 where
  pub instance : Instance
  pub end : ℕ

-- what a step takes: nothing, a leaf, or a tree of an instance
pub data Taken : Type 0 where
  nothing : Taken
  leaf : (span : Span) → Taken
  tree : (key : NodeKey) → Taken

-- the item belongs to the node of that key once it is complete
pub record Completes (core : List Nonterminal) (x : Item) (key : NodeKey) : Type 0 where
  pub complete : IsComplete core x
  pub instance : x.instance ≡ key.instance
  pub end : x.position ≡ key.end

-- one of the rules of reachable items gives the last item from the first one, which is known, and whose next step takes this
pub data Gives (core : List Nonterminal) (text : Input) (known : Item → Type 0) : Item → Taken → Item → Type 0 where
  -- (2) before a test whose condition is true
  test : (prev : Item) (names : List (List ℕ)) (e : Expression) (x : Item) → known prev →
      StandsBefore core prev names (Test e) → HasValue text prev names e (Bool true) → x ≡ past prev [] prev.position →
      Gives core text known prev nothing x
  -- (3) before a bind with a value
  bind : (prev : Item) (names : List (List ℕ)) (name : List ℕ) (e : Expression) (v : Value) (x : Item) → known prev →
      StandsBefore core prev names (Bind name e) → HasValue text prev names e v → x ≡ past prev (v ∷ []) prev.position →
      Gives core text known prev nothing x
  -- (4) before a terminal that matches
  terminal : (prev : Item) (names : List (List ℕ)) (what : Pattern) (label : Option (List ℕ)) (excluded : List Pattern)
      (j : ℕ) (taken : Taken) (x : Item) → known prev → StandsBefore core prev names (Term what label excluded) →
      Matches text what prev.position j → MatchesNone text excluded prev.position j →
      taken ≡ leaf (record { begin = prev.position; end = j }) → x ≡ past prev (span_of label prev.position j) j →
      Gives core text known prev taken x
  -- (6) before a call, with a known complete item of the callee's instance
  return : (prev done : Item) (label : Option (List ℕ)) (excluded : List Pattern) (key : NodeKey) (x : Item) →
      known prev → known done → Calls core text prev key.instance label excluded → Completes core done key →
      MatchesNone text excluded prev.position key.end → x ≡ past prev (span_of label prev.position key.end) key.end →
      Gives core text known prev (tree key) x
