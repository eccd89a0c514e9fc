-- The first call of an alternative. Up to it one item gives at most one.
use Rattle.std.specs.Prelude.{◌≡◌, ℕ, suc, ◌<◌, List, Option, Some, slice_get}
use Rattle.ig_text.specs.declared.pattern.Pattern.{Pattern}
use Rattle.ig_expr.specs.Expression.{Expression}
use Rattle.ig_item.specs.Core.{steps_at}
use Rattle.ig_item.specs.Items.{Item}
use Rattle.ig_item.specs.Step.{Step, Call}
use Rattle.ig_item.specs.declared.core_grammar.Nonterminal.{Nonterminal}

-- step k, from 0, is a call
abbrev pub IsCallIn : List Step → ℕ → Type 0
IsCallIn steps k =
    (callee : ℕ) × (arguments : List Expression) × (label : Option (List ℕ)) × (excluded : List Pattern) ×
    (slice_get steps k ≡ Some (Call callee arguments label excluded))

-- no step before that dot of alternative a of nonterminal n is a call
abbrev pub CallsNothing : List Nonterminal → ℕ → ℕ → ℕ → Type 0
CallsNothing core n a dot =
    (steps : List Step) (k : ℕ) → steps_at core n a ≡ Some steps → k < dot → IsCallIn steps k → ⊥

-- the step before that dot is a call
pub record IsBehindCall (core : List Nonterminal) (n a dot : ℕ) : Type 0 where
  pub before : ℕ
  pub next : dot ≡ suc before
  pub steps : List Step
  pub of : steps_at core n a ≡ Some steps
  pub calls : IsCallIn steps before

-- and there is a call before it
pub record IsBehindLater (core : List Nonterminal) (n a dot : ℕ) : Type 0 where
  pub call : IsBehindCall core n a dot
  pub later : CallsNothing core n a call.before → ⊥

-- no step before the one that the item has just passed is a call
pub record IsBehindFirst (core : List Nonterminal) (x : Item) : Type 0 where
  pub before : ℕ
  pub next : x.dot ≡ suc before
  pub nothing : CallsNothing core x.instance.nonterminal x.alternative before
