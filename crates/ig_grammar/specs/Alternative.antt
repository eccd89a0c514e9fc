-- Alternatives, each a list of symbols.
use Rattle.std.specs.Prelude.{List, [], ◌∷◌}
use Rattle.ig_grammar.specs.Symbol.{Alternatives, no_alternatives, next_alternative, gathered}
use Rattle.ig_grammar.specs.declared.symbol.Alt.{Alt}

abbrev pub gathered_alternatives : List Alt → Alternatives
gathered_alternatives [] = no_alternatives
gathered_alternatives (a ∷ others) = next_alternative (gathered a.symbols) (gathered_alternatives others)
