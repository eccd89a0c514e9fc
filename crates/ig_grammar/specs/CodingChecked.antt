-- For the proof checker alone: a reader need not read this file.
-- How checked grammars are stored.
use Rattle.std.specs.Prelude.{List, refl}
use Rattle.std.specs.Coded.{Coded, code_by, coded×, coded_list}
use Rattle.ig_grammar.specs.Checked.{CheckedGrammar}
use Rattle.ig_grammar.specs.contracts.grammar.Grammar as grammar
use Rattle.ig_grammar.specs.contracts.place.Shape as shape
use Rattle.ig_grammar.specs.declared.grammar.Grammar.{Grammar}
use Rattle.ig_grammar.specs.declared.place.Shape.{Shape}

abbrev pub checked_code : Coded CheckedGrammar
checked_code =
    code_by (Grammar × List Shape) (coded× grammar.the_row.coded (coded_list shape.the_row.coded))
    (λ c. (c.grammar, c.shapes)) (λ p. record { grammar = p.0; shapes = p.1 }) (λ _. refl)
