-- What the pass makes of symbols.
use Rattle.std.specs.Prelude.{Bool, true, false, List, [], ◌++◌, Option, Some, None}
use Rattle.ig_expr.specs.Expression.{Expression}
use Rattle.ig_grammar.specs.Symbol.{Symbol, Literal, OneOf, Call, Label, Guard, Let, Opt, Star, Plus, SepStar, SepPlus, Group, Offside, Ignore, Align, Filtered, Seq, Entry}
use Rattle.ig_grammar.specs.Symbol.{Symbols, no_symbols, next_symbol, Alternatives, no_alternatives, next_alternative}
use Rattle.ig_grammar.specs.declared.declaration.DeclKind.{DeclKind}
use Rattle.ig_grammar.specs.declared.declaration.DeclKind.TheVariants.{Lexical}
use Rattle.ig_blocks_parts.specs.Setting.{Setting, Pair, m_of, f_of, opened_by, cleared_by, inner, pair_bindings, column_bindings, guards, column_guards, extra, wrapped, entered}

-- the test before a call
abbrev pub call_tests : Setting → Pair → Option DeclKind → List Symbol
call_tests s p (Some Lexical) = guards s p
call_tests s p kind = []

-- the tests before a symbol
abbrev pub tests_of : Setting → Pair → Symbol → List Symbol
tests_of s p (Literal word) = guards s p
tests_of s p (OneOf class) = guards s p
tests_of s p (Call name arguments) = call_tests s p (s.kind_of name)
tests_of s p (Label name x) = tests_of s p x
tests_of s p (Offside x) = tests_of s (opened_by s p) x
tests_of s p (Ignore x) = tests_of s (cleared_by p) x
tests_of s p (Filtered x filters) = tests_of s p x
tests_of s p x = []

-- the arguments of a call, with the pair where its declaration gets it
abbrev pub arguments_of : Setting → Pair → Option DeclKind → List Expression → List Expression
arguments_of s p (Some Lexical) arguments = arguments
arguments_of s p (Some kind) arguments = arguments ++ extra s kind (m_of s p) (f_of s p)
arguments_of s p None arguments = arguments

abbrev mutual
  -- a symbol under a pair, without its tests; a list under `align` is aligned
  pub body_of : Setting → Bool → Pair → Symbol → Symbol
  body_of s al p (Literal word) = Literal word
  body_of s al p (OneOf class) = OneOf class
  body_of s al p (Call name arguments) = Call name (arguments_of s p (s.kind_of name) arguments)
  body_of s al p (Label name x) = Label name (body_of s false p x)
  body_of s al p (Guard e) = Guard e
  body_of s al p (Let name e) = Let name e
  body_of s al p (Opt x) =
      entered (pair_bindings s p ++ column_bindings s false) (Opt (wrapped (tests_of s (inner p) x) (body_of s false (inner p) x)))
  body_of s al p (Star x) =
      entered (pair_bindings s p ++ column_bindings s al) (Star (wrapped (column_guards s al ++ tests_of s (inner p) x) (body_of s false (inner p) x)))
  body_of s al p (Plus x) =
      entered (pair_bindings s p ++ column_bindings s al) (Plus (wrapped (column_guards s al ++ tests_of s (inner p) x) (body_of s false (inner p) x)))
  body_of s al p (SepStar x separator) =
      entered (pair_bindings s p ++ column_bindings s al)
      (SepStar (wrapped (column_guards s al ++ tests_of s (inner p) x) (body_of s false (inner p) x)) (wrapped (tests_of s (inner p) separator) (body_of s false (inner p) separator)))
  body_of s al p (SepPlus x separator) =
      entered (pair_bindings s p ++ column_bindings s al)
      (SepPlus (wrapped (column_guards s al ++ tests_of s (inner p) x) (body_of s false (inner p) x)) (wrapped (tests_of s (inner p) separator) (body_of s false (inner p) separator)))
  body_of s al p (Group choices) = entered (pair_bindings s p ++ column_bindings s false) (Group (choices_of s (inner p) choices))
  body_of s al p (Offside x) = body_of s al (opened_by s p) x
  body_of s al p (Ignore x) = body_of s al (cleared_by p) x
  body_of s al p (Align x) = body_of s true p x
  body_of s al p (Filtered x filters) = Filtered (body_of s al p x) filters
  body_of s al p (Seq xs) = Seq (sequence_of s p xs)
  body_of s al p (Entry bindings x) = Entry (bindings ++ pair_bindings s p) (body_of s false (inner p) x)

  pub sequence_of : Setting → Pair → Symbols → Symbols
  sequence_of s p no_symbols = no_symbols
  sequence_of s p (next_symbol x xs) = next_symbol (wrapped (tests_of s p x) (body_of s false p x)) (sequence_of s p xs)

  pub choices_of : Setting → Pair → Alternatives → Alternatives
  choices_of s p no_alternatives = no_alternatives
  choices_of s p (next_alternative xs others) = next_alternative (sequence_of s p xs) (choices_of s p others)
