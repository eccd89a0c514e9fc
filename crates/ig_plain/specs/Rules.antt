-- What comes of an item at one position.
use Rattle.std.specs.Prelude.{◌≡◌, ℕ, ◌≤◌, List, [], Option, None}
use Rattle.ig_text.specs.Input.{Input}
use Rattle.ig_text.specs.declared.pattern.Pattern.{Pattern}
use Rattle.ig_expr.specs.Expression.{Expression}
use Rattle.ig_item.specs.Step.{Call}
use Rattle.ig_item.specs.Core.{IsAlternative}
use Rattle.ig_item.specs.Items.{Item, StandsBefore, MatchesNone, first, past, span_of}
use Rattle.ig_item.specs.declared.core_grammar.Nonterminal.{Nonterminal}
use Rattle.ig_item.specs.declared.core_grammar.CoreAlt.{CoreAlt}
use Rattle.ig_item.specs.declared.items.Instance.{Instance}

-- x is the first item of an alternative of the instance, which is one of the first n
pub record IsFirst (core : List Nonterminal) (callee : Instance) (n : ℕ) (x : Item) : Type 0 where
  pub number : ℕ
  pub nonterminal : Nonterminal
  pub alternative : CoreAlt
  pub has : IsAlternative core callee.nonterminal number nonterminal alternative
  pub few : number ≤ n
  pub is : x ≡ first callee number

-- the item stands before a call
pub record StandsAtCall (core : List Nonterminal) (it : Item) : Type 0 where
  pub names : List (List ℕ)
  pub callee : ℕ
  pub arguments : List Expression
  pub label : Option (List ℕ)
  pub excluded : List Pattern
  pub before : StandsBefore core it names (Call callee arguments label excluded)

-- the item stands before a call that has neither a label nor an excluded pattern
pub record StandsAtBareCall (core : List Nonterminal) (it : Item) : Type 0 where
  pub names : List (List ℕ)
  pub callee : ℕ
  pub arguments : List Expression
  pub before : StandsBefore core it names (Call callee arguments None [])

-- x is the item after the call before which `it` stands, where the callee ended at `end`
pub record IsReturn (core : List Nonterminal) (text : Input) (it : Item) (end : ℕ) (x : Item) : Type 0 where
  pub call : StandsAtCall core it
  pub free : MatchesNone text call.excluded it.position end
  pub is : x ≡ past it (span_of call.label it.position end) end
