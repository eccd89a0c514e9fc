-- Which trees the steps before the dot of an item give.
use Rattle.std.specs.Prelude.{◌≡◌, ℕ, List, [], ◌∷◌, Option, true}
use Rattle.ig_text.specs.Input.{Input}
use Rattle.ig_text.specs.Tree.{Tree, Trees, Leaf, Node, none, one, join}
use Rattle.ig_text.specs.Pattern.{Matches}
use Rattle.ig_text.specs.declared.pattern.Pattern.{Pattern}
use Rattle.ig_expr.specs.Expression.{Expression}
use Rattle.ig_expr.specs.declared.value.Value.{Value}
use Rattle.ig_expr.specs.declared.value.Value.TheVariants.{Bool}
use Rattle.ig_item.specs.Step.{Test, Bind, Term}
use Rattle.ig_item.specs.CoreTrees.{HasTree}
use Rattle.ig_item.specs.Items.{Item, first, past, span_of, MatchesNone, StandsBefore, IsComplete, HasValue, Calls}
use Rattle.ig_item.specs.declared.core_grammar.Nonterminal.{Nonterminal}
use Rattle.ig_item.specs.declared.items.Instance.{Instance}

-- the step before which the item stands binds these values, leads to j, and gives these trees: none, a leaf, or a tree of the
-- callee
pub data Passes (core : List Nonterminal) (text : Input) (it : Item) : List Value → ℕ → Trees → Type 0 where
  test : (names : List (List ℕ)) (e : Expression) (j : ℕ) → StandsBefore core it names (Test e) →
      HasValue text it names e (Bool true) → j ≡ it.position → Passes core text it [] j none
  bind : (names : List (List ℕ)) (name : List ℕ) (e : Expression) (v : Value) (j : ℕ) →
      StandsBefore core it names (Bind name e) → HasValue text it names e v → j ≡ it.position →
      Passes core text it (v ∷ []) j none
  terminal : (names : List (List ℕ)) (what : Pattern) (label : Option (List ℕ)) (excluded : List Pattern)
      (bound : List Value) (j : ℕ) (ts : Trees) → StandsBefore core it names (Term what label excluded) →
      Matches text what it.position j → MatchesNone text excluded it.position j → bound ≡ span_of label it.position j →
      ts ≡ one (Leaf it.position j) → Passes core text it bound j ts
  call : (callee : Instance) (label : Option (List ℕ)) (excluded : List Pattern) (t : Tree) (bound : List Value) (j : ℕ)
      (ts : Trees) → Calls core text it callee label excluded →
      HasTree core text callee.nonterminal callee.values callee.start j t → MatchesNone text excluded it.position j →
      bound ≡ span_of label it.position j → ts ≡ one t → Passes core text it bound j ts

-- the steps before the item's dot lead to it, from the first item of its alternative, with these trees
pub data Comes (core : List Nonterminal) (text : Input) : Item → Trees → Type 0 where
  begin : (instance : Instance) (a : ℕ) (x : Item) → x ≡ first instance a → Comes core text x none
  further : (it : Item) (bound : List Value) (j : ℕ) (ts us vs : Trees) (x : Item) → Comes core text it ts →
      Passes core text it bound j us → x ≡ past it bound j → vs ≡ join ts us → Comes core text x vs

-- the steps of an alternative lead through it from the instance's start to j, and the tree is that of the alternative
pub record Completes (core : List Nonterminal) (text : Input) (instance : Instance) (j : ℕ) (t : Tree) : Type 0 where
  pub item : Item
  pub trees : Trees
  pub of_instance : item.instance ≡ instance
  pub to : item.position ≡ j
  pub complete : IsComplete core item
  pub comes : Comes core text item trees
  pub tree : t ≡ Node complete.alternative.tag instance.start j trees
