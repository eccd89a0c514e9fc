-- Expressions as syntax trees. The last four forms stand in no grammar text.
use Rattle.std.specs.Prelude.{ℕ, ℤ, List, [], ◌∷◌, ◌++◌, Bool}
use Rattle.ig_text.specs.declared.pattern.Pattern.{Pattern}
use Rattle.ig_text.specs.declared.pattern.Pattern.TheVariants.{Literal}
use Rattle.ig_expr.specs.declared.operator.Op.{Op}
use Rattle.ig_expr.specs.declared.operator.Function.{Function}

-- an expression
pub data Expression : Type 0 where
  Integer : ℤ → Expression
  Truth : Bool → Expression
  Here : Expression
  Variable : List ℕ → Expression
  Not : Expression → Expression
  Negative : Expression → Expression
  Binary : Op → Expression → Expression → Expression
  Of : Function → Expression → Expression
  Same : Expression → Expression → Expression
  Spells : Expression → List ℕ → Expression
  Outer : Expression → Expression → Expression
  Inside : Expression → Expression → Expression
  FreeBefore : Pattern → Expression
  FreeAfter : Pattern → Expression

-- the patterns in it: the words that spans are compared with, and what may not stand before or behind
abbrev pub patterns_in : Expression → List Pattern
patterns_in (Not a) = patterns_in a
patterns_in (Negative a) = patterns_in a
patterns_in (Binary op a b) = patterns_in a ++ patterns_in b
patterns_in (Of function a) = patterns_in a
patterns_in (Same a b) = patterns_in a ++ patterns_in b
patterns_in (Spells a word) = Literal word ∷ patterns_in a
patterns_in (Outer a b) = patterns_in a ++ patterns_in b
patterns_in (Inside a b) = patterns_in a ++ patterns_in b
patterns_in (FreeBefore pattern) = pattern ∷ []
patterns_in (FreeAfter pattern) = pattern ∷ []
patterns_in e = []
