use Rattle.std.proofs.Common.{◌*◌, ◌+◌, [], take, map, Ok}
use Rattle.ig_grammar.specs.View.{symbol_of}
use Rattle.ig_grammar.specs.CodingSizes.{nodes, nodes_of_symbols, nodes_of_alternatives}
use Rattle.ig_grammar.specs.Symbol.{gathered}
use Rattle.ig_grammar.specs.Alternative.{gathered_alternatives}
use Rattle.ig_grammar.specs.Visible.{inside_sequence, inside_choices, all_bind}
use Rattle.ig_scope.specs.AlternativesTold.{Walked}
use Rattle.ig_scope.proofs.walk.+walk.Given as goal

abbrev pub decreases-walk_symbol : goal.decreases-walk_symbol
decreases-walk_symbol l = 3 * nodes (symbol_of l.symbol.now)

abbrev pub decreases-walk_apart : goal.decreases-walk_apart
decreases-walk_apart l = 3 * nodes l.inner.now + 1

abbrev pub decreases-walk_sequence : goal.decreases-walk_sequence
decreases-walk_sequence l = 3 * nodes_of_symbols (gathered l.symbols.now) + 1

abbrev pub decreases-walk_choices : goal.decreases-walk_choices
decreases-walk_choices l = 3 * nodes_of_alternatives (gathered_alternatives l.choices.now) + 1

abbrev pub invariant-walk_sequence-loop-symbol : goal.invariant-walk_sequence-loop-symbol
invariant-walk_sequence-loop-symbol l =
    Walked l.around l.before
    (inside_sequence l.initial.variables (gathered (map symbol_of (take l.symbol-index l.symbol-items))))
    (all_bind l.initial.variables (gathered (map symbol_of (take l.symbol-index l.symbol-items)))) l.initial.variables l.variables (Ok l.next)

abbrev pub invariant-walk_choices-loop-choice : goal.invariant-walk_choices-loop-choice
invariant-walk_choices-loop-choice l =
    Walked l.around l.before
    (inside_choices l.initial.variables (gathered_alternatives (take l.choice-index l.choice-items)))
    [] l.initial.variables l.variables (Ok l.next)
