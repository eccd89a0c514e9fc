use Rattle.std.proofs.Common.{◌*◌, ◌+◌, drop, map}
use Rattle.ig_grammar.specs.View.{symbol_of}
use Rattle.ig_grammar.specs.CodingSizes.{nodes, nodes_of_symbols, nodes_of_alternatives}
use Rattle.ig_grammar.specs.Symbol.{gathered}
use Rattle.ig_grammar.specs.Alternative.{gathered_alternatives}
use Rattle.ig_ebnf_variables.specs.Lists.{added_symbols, added_alts}
use Rattle.ig_ebnf.proofs.CodeOfGrowth.{Leads}
use Rattle.ig_ebnf.proofs.growing.+growing.Given as goal

abbrev pub decreases-add : goal.decreases-add
decreases-add l = 2 * nodes (symbol_of l.symbol.now)

abbrev pub decreases-add_separated : goal.decreases-add_separated
decreases-add_separated l = 2 * (nodes l.list.now.item.now + nodes l.list.now.separator.now) + 1

abbrev pub decreases-add_each : goal.decreases-add_each
decreases-add_each l = 2 * nodes_of_symbols (gathered l.symbols.now) + 1

abbrev pub decreases-add_alternatives : goal.decreases-add_alternatives
decreases-add_alternatives l = 2 * nodes_of_alternatives (gathered_alternatives l.alternatives.now) + 1

abbrev pub invariant-add_each-loop-symbol : goal.invariant-add_each-loop-symbol
invariant-add_each-loop-symbol l =
    Leads l.initial.all (added_symbols l.of l.variables l.k (gathered (map symbol_of l.symbol-items))) l.all
    (added_symbols l.of l.visible l.next (gathered (map symbol_of (drop l.symbol-index l.symbol-items))))

abbrev pub invariant-add_alternatives-loop-alternative : goal.invariant-add_alternatives-loop-alternative
invariant-add_alternatives-loop-alternative l =
    Leads l.initial.all (added_alts l.of l.variables l.k l.alternative-items) l.all
    (added_alts l.of l.variables l.next (drop l.alternative-index l.alternative-items))
