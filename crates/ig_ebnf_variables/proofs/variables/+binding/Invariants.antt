use Rattle.std.proofs.Common.{◌≡◌, ◌*◌, ◌+◌, ◌++◌, drop, map}
use Rattle.ig_grammar.specs.View.{symbol_of}
use Rattle.ig_grammar.specs.CodingSizes.{nodes, nodes_of_symbols}
use Rattle.ig_grammar.specs.Symbol.{gathered}
use Rattle.ig_grammar.specs.Visible.{all_bind}
use Rattle.ig_ebnf_variables.proofs.variables.+binding.Given as goal

abbrev pub decreases-bind : goal.decreases-bind
decreases-bind l = 2 * nodes (symbol_of l.symbol.now)

abbrev pub decreases-bind_each : goal.decreases-bind_each
decreases-bind_each l = 2 * nodes_of_symbols (gathered l.symbols.now) + 1

abbrev pub invariant-bind_each-loop-symbol : goal.invariant-bind_each-loop-symbol
invariant-bind_each-loop-symbol l =
    l.variables ++ all_bind l.variables (gathered (map symbol_of (drop l.symbol-index l.symbol-items))) ≡
    l.initial.variables ++ all_bind l.initial.variables (gathered (map symbol_of l.symbol-items))
