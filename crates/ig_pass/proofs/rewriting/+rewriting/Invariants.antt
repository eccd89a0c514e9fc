use Rattle.std.proofs.Common.{◌≡◌, ◌+◌, ◌*◌, map, take}
use Rattle.ig_grammar.specs.View.{symbol_of}
use Rattle.ig_grammar.specs.Symbol.{gathered}
use Rattle.ig_grammar.specs.CodingSizes.{nodes, nodes_of_symbols, nodes_of_alternatives}
use Rattle.ig_grammar.specs.Alternative.{gathered_alternatives}
use Rattle.ig_pass.specs.Rewriting.{rewritten, rewritten_alternative}
use Rattle.ig_pass.proofs.rewriting.+rewriting.Given as goal

abbrev pub decreases-rewrite_symbol : goal.decreases-rewrite_symbol
decreases-rewrite_symbol g l = 4 * nodes (symbol_of l.symbol.now) + 1

abbrev pub decreases-symbol_within : goal.decreases-symbol_within
decreases-symbol_within g l = 4 * nodes (symbol_of l.symbol.now)

abbrev pub decreases-rewritten_inner : goal.decreases-rewritten_inner
decreases-rewritten_inner g l = 4 * nodes l.inner.now + 2

abbrev pub decreases-inner_within : goal.decreases-inner_within
decreases-inner_within g l = 4 * nodes l.inner.now + 1

abbrev pub decreases-rewritten_sequence : goal.decreases-rewritten_sequence
decreases-rewritten_sequence g l = 4 * nodes_of_symbols (gathered l.symbols.now) + 2

abbrev pub decreases-rewritten_alternatives : goal.decreases-rewritten_alternatives
decreases-rewritten_alternatives g l = 4 * nodes_of_alternatives (gathered_alternatives l.choices.now) + 2

abbrev pub invariant-rewritten_alternatives-loop-choice : goal.invariant-rewritten_alternatives-loop-choice
invariant-rewritten_alternatives-loop-choice g l =
    l.all ≡ map (rewritten_alternative (g.O.OwnRule.rule l.own l.decl)) (take l.choice-index l.choice-items)

abbrev pub invariant-rewritten_sequence-loop-symbol : goal.invariant-rewritten_sequence-loop-symbol
invariant-rewritten_sequence-loop-symbol g l =
    l.all ≡ map (rewritten (g.O.OwnRule.rule l.own l.decl)) (map symbol_of (take l.symbol-index l.symbol-items))
