use Rattle.std.proofs.Common.{◌-◌, List, [], ◌∷◌, length}
use Rattle.ig_notation_syntax.specs.Rules.{ReadsFilters}
use Rattle.ig_grammar.specs.declared.filter.Filter.{Filter}
use Rattle.ig_notation_syntax.specs.Machine as want
use Rattle.ig_notation_syntax.specs.Reading.{Goes}
use Rattle.ig_notation_terms.specs.Readers.{Front}
use Rattle.ig_notation_terms.proofs.filters.read_filters.Given as goal

-- what is read so far is the front of the filters
abbrev pub invariant-loop-sign : goal.invariant-loop-sign
invariant-loop-sign l =
    Goes (List Filter) (Front ReadsFilters) (want.filters ∷ []) (want.filters ∷ []) l.tokens l.at l.end l.filters.items

abbrev pub decreases-loop-sign : goal.decreases-loop-sign
decreases-loop-sign l = length l.tokens - l.end
