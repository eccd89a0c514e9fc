-- Which symbols of an alternative are operands, and what its level asks of their trees.
use Rattle.std.specs.Prelude.{◌≡◌, ℕ, ◌+◌, List, [], ◌∷◌, ◌++◌}
use Rattle.ig_expr.specs.Expression.{Expression}
use Rattle.ig_grammar.specs.Symbol.{Symbol, Call, Label, Guard, Let}
use Rattle.ig_grammar.specs.Numbering.{Levelled}
use Rattle.ig_grammar.specs.declared.declaration.Assoc.{Assoc}
use Rattle.ig_grammar.specs.declared.declaration.Assoc.TheVariants.{Left, Right, Nonassoc}

-- the symbols without guards and lets
abbrev pub without_tests : List Symbol → List Symbol
without_tests [] = []
without_tests (Guard condition ∷ others) = without_tests others
without_tests (Let name e ∷ others) = without_tests others
without_tests (x ∷ others) = x ∷ without_tests others

-- a call of the nonterminal, or a label directly round one
pub data Calls (name : List ℕ) : Symbol → Type 0 where
  plain : (arguments : List Expression) → Calls name (Call name arguments)
  labelled : (label : List ℕ) (arguments : List Expression) → Calls name (Label label (Call name arguments))

-- guards and lets skipped, the first symbol calls the nonterminal, and is not the last one
pub record HasLeftOperand (name : List ℕ) (symbols : List Symbol) : Type 0 where
  pub first : Symbol
  pub second : Symbol
  pub others : List Symbol
  pub split : without_tests symbols ≡ first ∷ second ∷ others
  pub calls : Calls name first

-- guards and lets skipped, the last symbol calls the nonterminal, and is not the first one
pub record HasRightOperand (name : List ℕ) (symbols : List Symbol) : Type 0 where
  pub first : Symbol
  pub others : List Symbol
  pub last : Symbol
  pub split : without_tests symbols ≡ first ∷ others ++ last ∷ []
  pub calls : Calls name last

-- one more where a left operand of the same level is refused
abbrev pub more_on_the_left : Assoc → ℕ
more_on_the_left Right = 1
more_on_the_left Nonassoc = 1
more_on_the_left assoc = 0

-- one more where a right operand of the same level is refused
abbrev pub more_on_the_right : Assoc → ℕ
more_on_the_right Left = 1
more_on_the_right Nonassoc = 1
more_on_the_right assoc = 0

-- the bound for the left operand: the alternative's level, or one more
abbrev pub left_bound : Levelled → ℕ
left_bound a = a.level + more_on_the_left a.assoc

-- the bound for the right operand
abbrev pub right_bound : Levelled → ℕ
right_bound a = a.level + more_on_the_right a.assoc
