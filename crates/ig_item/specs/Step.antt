-- The steps of a core grammar, with expressions as syntax trees.
use Rattle.std.specs.Prelude.{ℕ, List, [], ◌∷◌, Option, Some, None}
use Rattle.ig_text.specs.declared.pattern.Pattern.{Pattern}
use Rattle.ig_expr.specs.Expression.{Expression}

pub data Step : Type 0 where
  -- the condition has to be true
  Test : (condition : Expression) → Step
  -- the name is bound to the value
  Bind : (name : List ℕ) (value : Expression) → Step
  -- a match of the pattern that is a match of none of the excluded patterns; a label binds its span
  Term : (what : Pattern) (label : Option (List ℕ)) (excluded : List Pattern) → Step
  -- a call of the nonterminal of that number, which covers a match of none of the excluded patterns; a label binds its span
  Call : (callee : ℕ) (arguments : List Expression) (label : Option (List ℕ)) (excluded : List Pattern) → Step

-- the names that a label binds
abbrev pub labels : Option (List ℕ) → List (List ℕ)
labels None = []
labels (Some name) = name ∷ []

-- the names that a step binds
abbrev pub names_of : Step → List (List ℕ)
names_of (Test condition) = []
names_of (Bind name value) = name ∷ []
names_of (Term what label excluded) = labels label
names_of (Call callee arguments label excluded) = labels label
