use Rattle.std.proofs.Common.{◌+◌, ◌-◌, ◌*◌, List, [], ◌∷◌, length}
use Rattle.ig_grammar.specs.Symbol as tree
use Rattle.ig_grammar.specs.Symbol.{gathered}
use Rattle.ig_grammar.specs.Alternative.{gathered_alternatives}
use Rattle.ig_notation_syntax.specs.Rules.{ReadsAlternative, ReadsAlternatives}
use Rattle.ig_grammar.specs.declared.symbol.Alt.{Alt}
use Rattle.ig_notation_syntax.specs.Machine as want
use Rattle.ig_notation_syntax.specs.Machine.{alternatives_wants}
use Rattle.ig_notation_syntax.specs.Reading.{Goes}
use Rattle.ig_notation_terms.specs.Readers.{Front}
use Rattle.ig_notation.proofs.symbols.+symbols.Given as goal

-- how many tokens are left, and how deep the function stands among those that read from the same token

abbrev pub decreases-read_unmarked : goal.decreases-read_unmarked
decreases-read_unmarked l = 5 * (length l.tokens.now - l.at) + 0

abbrev pub decreases-read_marked : goal.decreases-read_marked
decreases-read_marked l = 5 * (length l.tokens.now - l.at) + 1

abbrev pub decreases-read_symbol : goal.decreases-read_symbol
decreases-read_symbol l = 5 * (length l.tokens.now - l.at) + 2

abbrev pub decreases-read_alternative : goal.decreases-read_alternative
decreases-read_alternative l = 5 * (length l.tokens.now - l.at) + 3

abbrev pub decreases-read_alternatives : goal.decreases-read_alternatives
decreases-read_alternatives l = 5 * (length l.tokens.now - l.at) + 4

-- what is read so far is the front of the symbols, or of the alternatives
abbrev pub invariant-read_alternatives-loop-alternatives : goal.invariant-read_alternatives-loop-alternatives
invariant-read_alternatives-loop-alternatives l =
    Goes (List Alt) (Front (λ s r ys. ReadsAlternatives s r (gathered_alternatives ys))) alternatives_wants alternatives_wants l.tokens l.at l.end l.alternatives

abbrev pub decreases-read_alternatives-loop-alternatives : goal.decreases-read_alternatives-loop-alternatives
decreases-read_alternatives-loop-alternatives l = length l.tokens - l.end

abbrev pub invariant-read_alternative-loop-alloc : goal.invariant-read_alternative-loop-alloc
invariant-read_alternative-loop-alloc l =
    Goes (List tree.Symbol) (Front (λ s r xs. ReadsAlternative s r (gathered xs))) (want.alternative ∷ []) (want.alternative ∷ []) l.tokens l.at l.end l.symbols

abbrev pub decreases-read_alternative-loop-alloc : goal.decreases-read_alternative-loop-alloc
decreases-read_alternative-loop-alloc l = length l.tokens - l.end
