-- What `Regular` asks of alternatives, of one symbol and of one sequence.
use Rattle.std.specs.Prelude.{All}
use Rattle.ig_grammar.specs.Symbol.{Symbol, Symbols}
use Rattle.ig_grammar.specs.Subterms.{subterms, subterms_of_symbols}
use Rattle.ig_grammar.specs.Regular.{IsPlaced, IsNoMark}

abbrev pub StandsWell : Symbol → Type 0
StandsWell x = All IsPlaced (subterms x)

abbrev pub SymbolsStandWell : Symbols → Type 0
SymbolsStandWell xs = All IsPlaced (subterms_of_symbols xs)

abbrev pub HasNoMark : Symbol → Type 0
HasNoMark x = All IsNoMark (subterms x)

abbrev pub SymbolsHaveNoMark : Symbols → Type 0
SymbolsHaveNoMark xs = All IsNoMark (subterms_of_symbols xs)
