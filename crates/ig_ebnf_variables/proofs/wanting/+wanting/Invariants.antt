use Rattle.std.proofs.Common.{◌≡◌, ◌*◌, ◌+◌, drop, map}
use Rattle.ig_grammar.specs.View.{symbol_of}
use Rattle.ig_grammar.specs.CodingSizes.{nodes, nodes_of_symbols, nodes_of_alternatives}
use Rattle.ig_grammar.specs.Symbol.{gathered}
use Rattle.ig_grammar.specs.Alternative.{gathered_alternatives}
use Rattle.ig_pass.specs.Needs.{symbols_need, alternatives_need}
use Rattle.ig_ebnf_variables.proofs.wanting.+wanting.Given as goal

abbrev pub decreases-needs : goal.decreases-needs
decreases-needs l = 2 * nodes (symbol_of l.symbol.now)

abbrev pub decreases-one_needs : goal.decreases-one_needs
decreases-one_needs l = 2 * (nodes (symbol_of l.item.now) + nodes (symbol_of l.separator.now)) + 1

abbrev pub decreases-symbols_need : goal.decreases-symbols_need
decreases-symbols_need l = 2 * nodes_of_symbols (gathered l.symbols.now) + 1

abbrev pub decreases-choices_need : goal.decreases-choices_need
decreases-choices_need l = 2 * nodes_of_alternatives (gathered_alternatives l.choices.now) + 1

abbrev pub invariant-symbols_need-loop-symbol : goal.invariant-symbols_need-loop-symbol
invariant-symbols_need-loop-symbol l =
    symbols_need l.name (gathered (map symbol_of (drop l.symbol-index l.symbol-items))) ≡
    symbols_need l.name (gathered (map symbol_of l.symbol-items))

abbrev pub invariant-choices_need-loop-choice : goal.invariant-choices_need-loop-choice
invariant-choices_need-loop-choice l =
    alternatives_need l.name (gathered_alternatives (drop l.choice-index l.choice-items)) ≡
    alternatives_need l.name (gathered_alternatives l.choice-items)
