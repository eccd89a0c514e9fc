-- What holds always holds throughout.
use Rattle.ig_grammar.specs.Symbol.{Symbol, Literal, OneOf, Call, Label, Guard, Let, Opt, Star, Plus, SepStar, SepPlus, Group, Offside, Ignore, Align, Filtered, Seq, Entry}
use Rattle.ig_grammar.specs.Symbol.{Symbols, no_symbols, next_symbol, Alternatives, no_alternatives, next_alternative}
use Rattle.ig_lexical.proofs.Traversal.{Throughout, ThroughoutSymbols, ThroughoutChoices}

mutual
  pub always : (x : Symbol) → Throughout (λ y. Unit {0}) x
  always (Literal word) = tt
  always (OneOf class) = tt
  always (Call name arguments) = tt
  always (Label name x) = (tt, always x)
  always (Guard e) = tt
  always (Let name e) = tt
  always (Opt x) = (tt, always x)
  always (Star x) = (tt, always x)
  always (Plus x) = (tt, always x)
  always (SepStar x s) = (tt, always x, always s)
  always (SepPlus x s) = (tt, always x, always s)
  always (Group xs) = (tt, always_choices xs)
  always (Offside x) = (tt, always x)
  always (Ignore x) = (tt, always x)
  always (Align x) = (tt, always x)
  always (Filtered x fs) = (tt, always x)
  always (Seq xs) = (tt, always_symbols xs)
  always (Entry bs x) = (tt, always x)

  pub always_symbols : (xs : Symbols) → ThroughoutSymbols (λ y. Unit {0}) xs
  always_symbols no_symbols = tt
  always_symbols (next_symbol x xs) = (always x, always_symbols xs)

  pub always_choices : (xs : Alternatives) → ThroughoutChoices (λ y. Unit {0}) xs
  always_choices no_alternatives = tt
  always_choices (next_alternative xs others) = (always_symbols xs, always_choices others)
