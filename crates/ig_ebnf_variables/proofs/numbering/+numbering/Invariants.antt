use Rattle.std.proofs.Common.{◌≡◌, ◌*◌, ◌+◌, drop, map}
use Rattle.ig_grammar.specs.View.{symbol_of}
use Rattle.ig_grammar.specs.CodingSizes.{nodes, nodes_of_symbols, nodes_of_alternatives}
use Rattle.ig_grammar.specs.Symbol.{gathered}
use Rattle.ig_grammar.specs.Alternative.{gathered_alternatives}
use Rattle.ig_ebnf_variables.specs.Lists.{count_symbols, count_alts}
use Rattle.ig_ebnf_variables.proofs.numbering.+numbering.Given as goal

abbrev pub decreases-count : goal.decreases-count
decreases-count l = 2 * nodes (symbol_of l.symbol.now)

abbrev pub decreases-count_both : goal.decreases-count_both
decreases-count_both l = 2 * (nodes l.item.now + nodes l.separator.now) + 1

abbrev pub decreases-count_symbols : goal.decreases-count_symbols
decreases-count_symbols l = 2 * nodes_of_symbols (gathered l.symbols.now) + 1

abbrev pub decreases-count_alternatives : goal.decreases-count_alternatives
decreases-count_alternatives l = 2 * nodes_of_alternatives (gathered_alternatives l.alternatives.now) + 1

abbrev pub invariant-count_symbols-loop-symbol : goal.invariant-count_symbols-loop-symbol
invariant-count_symbols-loop-symbol l =
    l.all + count_symbols (gathered (map symbol_of (drop l.symbol-index l.symbol-items))) ≡
    count_symbols (gathered (map symbol_of l.symbol-items))

abbrev pub invariant-count_alternatives-loop-alternative : goal.invariant-count_alternatives-loop-alternative
invariant-count_alternatives-loop-alternative l =
    l.all + count_alts (drop l.alternative-index l.alternative-items) ≡ count_alts l.alternative-items
