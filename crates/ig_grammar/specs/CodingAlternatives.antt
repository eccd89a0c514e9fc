-- For the proof checker alone: a reader need not read this file.
-- How alternatives are stored, and their sizes.
use Rattle.std.specs.Prelude.{ℕ, List, refl}
use Rattle.std.specs.Coded.{Coded, code_by, coded_list}
use Rattle.ig_grammar.specs.Symbol.{Symbol}
use Rattle.ig_grammar.specs.Alternative.{gathered_alternatives}
use Rattle.ig_grammar.specs.CodingSizes.{nodes_of_alternatives}
use Rattle.ig_grammar.specs.CodingSymbols.{symbol_code}
use Rattle.ig_grammar.specs.declared.symbol.Alt.{Alt}

abbrev pub alternative_code : Coded Alt
alternative_code =
    code_by (List Symbol) (coded_list symbol_code) (λ a. a.symbols) (λ xs. record { symbols = xs }) (λ _. refl)

-- the number of nodes of alternatives
abbrev pub alternatives_nodes : List Alt → ℕ
alternatives_nodes alternatives = nodes_of_alternatives (gathered_alternatives alternatives)
