-- The forms that a text of the notation can have. The others come from passes alone.
use Rattle.std.specs.Prelude.{◌≢◌, [], All}
use Rattle.ig_expr.specs.Expression.{Expression, Integer, Truth, Here, Variable, Not, Negative, Binary, Of, Same, Spells, Outer, Inside, FreeBefore, FreeAfter}
use Rattle.ig_notation_syntax.specs.Token as token
use Rattle.ig_notation_syntax.specs.Token.{Token}
use Rattle.ig_grammar.specs.Symbol.{Symbol, Literal, OneOf, Call, Label, Guard, Let, Opt, Star, Plus, SepStar, SepPlus, Group, Offside, Ignore, Align, Filtered, Seq, Entry}
use Rattle.ig_grammar.specs.Symbol.{Symbols, no_symbols, next_symbol, Alternatives, no_alternatives, next_alternative}

-- no test of a pass stands in the expression
abbrev pub ExpressionIsWritten : Expression → Type 0
ExpressionIsWritten (Integer n) = Unit {0}
ExpressionIsWritten (Truth b) = Unit {0}
ExpressionIsWritten Here = Unit {0}
ExpressionIsWritten (Variable x) = Unit {0}
ExpressionIsWritten (Not a) = ExpressionIsWritten a
ExpressionIsWritten (Negative a) = ExpressionIsWritten a
ExpressionIsWritten (Binary op a b) = ExpressionIsWritten a × ExpressionIsWritten b
ExpressionIsWritten (Of f a) = ExpressionIsWritten a
ExpressionIsWritten (Same a b) = ExpressionIsWritten a × ExpressionIsWritten b
ExpressionIsWritten (Spells a word) = ExpressionIsWritten a
ExpressionIsWritten (Outer a b) = ⊥
ExpressionIsWritten (Inside a b) = ⊥
ExpressionIsWritten (FreeBefore pattern) = ⊥
ExpressionIsWritten (FreeAfter pattern) = ⊥

-- no sequence and no entry stands in the symbol, nor a test of a pass
abbrev mutual
  pub IsWritten : Symbol → Type 0
  IsWritten (Literal word) = Unit {0}
  IsWritten (OneOf class) = Unit {0}
  IsWritten (Call name arguments) = All ExpressionIsWritten arguments
  IsWritten (Label name x) = IsWritten x
  IsWritten (Guard e) = ExpressionIsWritten e
  IsWritten (Let name e) = ExpressionIsWritten e
  IsWritten (Opt x) = IsWritten x
  IsWritten (Star x) = IsWritten x
  IsWritten (Plus x) = IsWritten x
  IsWritten (SepStar x separator) = IsWritten x × IsWritten separator
  IsWritten (SepPlus x separator) = IsWritten x × IsWritten separator
  IsWritten (Group choices) = AlternativesAreWritten choices
  IsWritten (Offside x) = IsWritten x
  IsWritten (Ignore x) = IsWritten x
  IsWritten (Align x) = IsWritten x
  IsWritten (Filtered x filters) = IsWritten x
  IsWritten (Seq xs) = ⊥
  IsWritten (Entry bindings x) = ⊥

  pub SymbolsAreWritten : Symbols → Type 0
  SymbolsAreWritten no_symbols = Unit {0}
  SymbolsAreWritten (next_symbol x xs) = IsWritten x × SymbolsAreWritten xs

  pub AlternativesAreWritten : Alternatives → Type 0
  AlternativesAreWritten no_alternatives = Unit {0}
  AlternativesAreWritten (next_alternative xs others) = SymbolsAreWritten xs × AlternativesAreWritten others

-- a literal has at least one character
abbrev pub HasText : Token → Type 0
HasText (token.Literal word) = word ≢ []
HasText t = Unit {0}
