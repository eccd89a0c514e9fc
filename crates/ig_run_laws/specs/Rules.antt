-- What follows from an item and those that were taken before it.
use Rattle.std.specs.Prelude.{◌≡◌, ℕ, List, [], ◌∷◌, Option, true}
use Rattle.ig_text.specs.Input.{Input}
use Rattle.ig_text.specs.Pattern.{Matches}
use Rattle.ig_text.specs.declared.pattern.Pattern.{Pattern}
use Rattle.ig_expr.specs.Expression.{Expression}
use Rattle.ig_expr.specs.declared.value.Value.{Value}
use Rattle.ig_expr.specs.declared.value.Value.TheVariants.{Bool}
use Rattle.ig_item.specs.Step.{Test, Bind, Term}
use Rattle.ig_item.specs.Core.{IsAlternative}
use Rattle.ig_item.specs.Items.{Item, Calls, IsComplete, StandsBefore, HasValue, MatchesNone, first, past, span_of}
use Rattle.ig_item.specs.declared.core_grammar.Nonterminal.{Nonterminal}
use Rattle.ig_item.specs.declared.core_grammar.CoreAlt.{CoreAlt}
use Rattle.ig_item.specs.declared.items.Instance.{Instance}

-- x follows from `it`, alone or with a known item: one that is complete, where `it` calls; one that calls, where `it` is complete
pub data After (core : List Nonterminal) (text : Input) (known : Item → Type 0) (it x : Item) : Type 0 where
  test : (names : List (List ℕ)) (e : Expression) → StandsBefore core it names (Test e) → HasValue text it names e (Bool true) →
      x ≡ past it [] it.position → After core text known it x
  bind : (names : List (List ℕ)) (name : List ℕ) (e : Expression) (v : Value) → StandsBefore core it names (Bind name e) →
      HasValue text it names e v → x ≡ past it (v ∷ []) it.position → After core text known it x
  terminal : (names : List (List ℕ)) (what : Pattern) (label : Option (List ℕ)) (excluded : List Pattern) (j : ℕ) →
      StandsBefore core it names (Term what label excluded) → Matches text what it.position j →
      MatchesNone text excluded it.position j → x ≡ past it (span_of label it.position j) j → After core text known it x
  call : (callee : Instance) (label : Option (List ℕ)) (excluded : List Pattern) (nonterminal : Nonterminal) (a : ℕ)
      (alternative : CoreAlt) → Calls core text it callee label excluded →
      IsAlternative core callee.nonterminal a nonterminal alternative → x ≡ first callee a → After core text known it x
  return : (done : Item) (label : Option (List ℕ)) (excluded : List Pattern) → known done →
      Calls core text it done.instance label excluded → IsComplete core done →
      MatchesNone text excluded it.position done.position →
      x ≡ past it (span_of label it.position done.position) done.position → After core text known it x
  returned : (caller : Item) (label : Option (List ℕ)) (excluded : List Pattern) → known caller →
      Calls core text caller it.instance label excluded → IsComplete core it →
      MatchesNone text excluded caller.position it.position →
      x ≡ past caller (span_of label caller.position it.position) it.position → After core text known it x

-- the item stands before a call of the instance, whose arguments have its values
pub record IsCaller (core : List Nonterminal) (text : Input) (it : Item) (callee : Instance) : Type 0 where
  pub label : Option (List ℕ)
  pub excluded : List Pattern
  pub calls : Calls core text it callee label excluded

-- x is the item after the call of the instance before which `it` stands, where that ended at p
pub record IsReturn (core : List Nonterminal) (text : Input) (it : Item) (callee : Instance) (p : ℕ) (x : Item) : Type 0 where
  pub label : Option (List ℕ)
  pub excluded : List Pattern
  pub calls : Calls core text it callee label excluded
  pub free : MatchesNone text excluded it.position p
  pub is : x ≡ past it (span_of label it.position p) p

-- x is the first item of an alternative of the instance
pub record IsFirstOf (core : List Nonterminal) (callee : Instance) (x : Item) : Type 0 where
  pub number : ℕ
  pub nonterminal : Nonterminal
  pub alternative : CoreAlt
  pub has : IsAlternative core callee.nonterminal number nonterminal alternative
  pub is : x ≡ first callee number
