-- Symbols as syntax trees.
use Rattle.std.specs.Prelude.{ℕ, List, [], ◌∷◌}
use Rattle.ig_text.specs.declared.class.Class.{Class}
use Rattle.ig_expr.specs.Expression.{Expression}
use Rattle.ig_grammar.specs.declared.filter.Filter.{Filter}
use Rattle.ig_grammar.specs.Binding.{Binding}

mutual
  pub data Symbol : Type 0 where
    Literal : List ℕ → Symbol
    OneOf : Class → Symbol
    Call : List ℕ → List Expression → Symbol
    Label : List ℕ → Symbol → Symbol
    Guard : Expression → Symbol
    Let : List ℕ → Expression → Symbol
    Opt : Symbol → Symbol
    Star : Symbol → Symbol
    Plus : Symbol → Symbol
    -- of a symbol, and its separator
    SepStar : Symbol → Symbol → Symbol
    SepPlus : Symbol → Symbol → Symbol
    Group : Alternatives → Symbol
    Offside : Symbol → Symbol
    Ignore : Symbol → Symbol
    Align : Symbol → Symbol
    Filtered : Symbol → List Filter → Symbol
    Seq : Symbols → Symbol
    Entry : List Binding → Symbol → Symbol

  -- the symbols of an alternative, in order
  pub data Symbols : Type 0 where
    no_symbols : Symbols
    next_symbol : Symbol → Symbols → Symbols

  pub data Alternatives : Type 0 where
    no_alternatives : Alternatives
    next_alternative : Symbols → Alternatives → Alternatives

-- as a list, and back
abbrev pub listed : Symbols → List Symbol
listed no_symbols = []
listed (next_symbol x xs) = x ∷ listed xs

abbrev pub gathered : List Symbol → Symbols
gathered [] = no_symbols
gathered (x ∷ xs) = next_symbol x (gathered xs)
