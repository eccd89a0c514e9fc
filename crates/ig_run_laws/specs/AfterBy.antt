-- What follows from an item that is taken, and in which way it does.
use Rattle.std.specs.Prelude.{◌≡◌, ◌⊎◌, ℕ, List, [], ◌∷◌, Option, Some, slice_get, true}
use Rattle.ig_text.specs.Input.{Input}
use Rattle.ig_text.specs.Pattern.{Matches}
use Rattle.ig_text.specs.declared.pattern.Pattern.{Pattern}
use Rattle.ig_expr.specs.Expression.{Expression}
use Rattle.ig_expr.specs.declared.value.Value.{Value}
use Rattle.ig_expr.specs.declared.value.Value.TheVariants.{Bool}
use Rattle.ig_item.specs.Step.{Test, Bind, Term}
use Rattle.ig_item.specs.Items.{Item, IsComplete, StandsBefore, HasValue, MatchesNone, past, span_of}
use Rattle.ig_item.specs.declared.core_grammar.Nonterminal.{Nonterminal}
use Rattle.ig_item.specs.declared.items.Instance.{Instance}
use Rattle.ig_item.specs.declared.ways.Way.{Way}
use Rattle.ig_item.specs.declared.ways.Way.TheVariants.{Begin, Pass, Leaf, Node as Tree}
use Rattle.ig_run_laws.specs.Rules.{IsCaller, IsReturn, IsFirstOf}
use Rattle.ig_run_laws.specs.Stacks.{Node, Pop, HasEdge, HasPop}

-- x follows from the item of number k, which is taken now, in that way: alone, or with an item that was taken before and
-- that stands in the nodes as they were then. A way over a call names the node by the number in its pop
pub data AfterBy (core : List Nonterminal) (text : Input) (found : List Item) (nodes : List Node) (it : Item) (k : ℕ)
    (way : Way) (x : Item) : Type 0 where
  test : (names : List (List ℕ)) (e : Expression) → StandsBefore core it names (Test e) → HasValue text it names e (Bool true) →
      way ≡ Pass k → x ≡ past it [] it.position → AfterBy core text found nodes it k way x
  bind : (names : List (List ℕ)) (name : List ℕ) (e : Expression) (v : Value) → StandsBefore core it names (Bind name e) →
      HasValue text it names e v → way ≡ Pass k → x ≡ past it (v ∷ []) it.position → AfterBy core text found nodes it k way x
  terminal : (names : List (List ℕ)) (what : Pattern) (label : Option (List ℕ)) (excluded : List Pattern) (j : ℕ) →
      StandsBefore core it names (Term what label excluded) → Matches text what it.position j →
      MatchesNone text excluded it.position j → way ≡ Leaf k → x ≡ past it (span_of label it.position j) j →
      AfterBy core text found nodes it k way x
  -- the first items of the instance that it calls
  call : (callee : Instance) → IsCaller core text it callee → IsFirstOf core callee x → way ≡ Begin →
      AfterBy core text found nodes it k way x
  -- the item after that call, for each pop of the instance
  return : (callee : Instance) (p : Pop) → HasPop nodes callee p → IsReturn core text it callee p.end x → way ≡ Tree k p.done →
      AfterBy core text found nodes it k way x
  -- the items after calls of its own instance, where it is complete, for each edge
  returned : (e : ℕ) (caller : Item) → IsComplete core it → HasEdge nodes it.instance e → slice_get found e ≡ Some caller →
      IsReturn core text caller it.instance it.position x → way ≡ Tree e k → AfterBy core text found nodes it k way x

-- what `AfterBy` says of an item that calls the instance: its first items, and a return for each pop
abbrev pub AfterCall : List Nonterminal → Input → List Node → Item → ℕ → Instance → Way → Item → Type 0
AfterCall core text nodes it k callee way x =
    ((way ≡ Begin) × IsFirstOf core callee x) ⊎
    ((p : Pop) × HasPop nodes callee p × (way ≡ Tree k p.done) × IsReturn core text it callee p.end x)

-- what it says of a complete item: a return for each edge
abbrev pub AfterEnd : List Nonterminal → Input → List Item → List Node → Item → ℕ → Way → Item → Type 0
AfterEnd core text found nodes it k way x =
    (e : ℕ) × (caller : Item) × HasEdge nodes it.instance e × (slice_get found e ≡ Some caller) × (way ≡ Tree e k) ×
    IsReturn core text caller it.instance it.position x
