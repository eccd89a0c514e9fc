use Rattle.std.proofs.Common.{◌≡◌, ◌*◌, ◌+◌, ◌++◌, drop, map}
use Rattle.ig_grammar.specs.View.{symbol_of}
use Rattle.ig_grammar.specs.CodingSizes.{nodes, nodes_of_symbols}
use Rattle.ig_grammar.specs.Symbol.{gathered}
use Rattle.ig_ebnf_variables.specs.Lists.{new_symbols}
use Rattle.ig_ebnf.proofs.placing.+placing.Given as goal

abbrev pub decreases-push_new : goal.decreases-push_new
decreases-push_new l = 2 * nodes (symbol_of l.symbol.now)

abbrev pub decreases-push_each : goal.decreases-push_each
decreases-push_each l = 2 * nodes_of_symbols (gathered l.symbols.now) + 1

abbrev pub invariant-push_each-loop-symbol : goal.invariant-push_each-loop-symbol
invariant-push_each-loop-symbol l =
    l.all ++ new_symbols l.of l.visible l.next (gathered (map symbol_of (drop l.symbol-index l.symbol-items))) ≡
    l.initial.all ++ new_symbols l.of l.variables l.k (gathered (map symbol_of l.symbol-items))
