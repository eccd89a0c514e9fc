use Rattle.std.proofs.Common.{◌*◌, ◌+◌, take, map, Some}
use Rattle.ig_grammar.specs.View.{symbol_of}
use Rattle.ig_grammar.specs.CodingSizes.{nodes, nodes_of_symbols, nodes_of_alternatives}
use Rattle.ig_grammar.specs.Symbol.{gathered}
use Rattle.ig_grammar.specs.Alternative.{gathered_alternatives}
use Rattle.ig_grammar.specs.Visible.{Visible, inside_sequence, inside_choices}
use Rattle.ig_scope.specs.Binders.{Leaves, binders}
use Rattle.ig_scope.proofs.binders.+binders.Given as goal

abbrev pub decreases-leave : goal.decreases-leave
decreases-leave l = 2 * nodes (symbol_of l.symbol.now)

abbrev pub decreases-leave_sequence : goal.decreases-leave_sequence
decreases-leave_sequence l = 2 * nodes_of_symbols (gathered l.symbols.now) + 1

abbrev pub decreases-leave_choices : goal.decreases-leave_choices
decreases-leave_choices l = 2 * nodes_of_alternatives (gathered_alternatives l.choices.now) + 1

abbrev pub invariant-leave_sequence-loop-symbol : goal.invariant-leave_sequence-loop-symbol
invariant-leave_sequence-loop-symbol l =
    (v : Visible) → Leaves l.room (binders (inside_sequence v (gathered (map symbol_of (take l.symbol-index l.symbol-items))))) (Some l.left)

abbrev pub invariant-leave_choices-loop-choice : goal.invariant-leave_choices-loop-choice
invariant-leave_choices-loop-choice l =
    (v : Visible) → Leaves l.room (binders (inside_choices v (gathered_alternatives (take l.choice-index l.choice-items)))) (Some l.left)
