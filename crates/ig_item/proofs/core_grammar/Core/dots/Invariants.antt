use Rattle.std.proofs.Common.{◌≡◌, ◌+◌, drop}
use Rattle.std.specs.List.{fold}
use Rattle.ig_item.specs.Core.{dots, dots_of_nonterminal}
use Rattle.ig_item.proofs.core_grammar.Core.dots.Given as goal

abbrev pub invariant-loop-nonterminal : goal.invariant-loop-nonterminal
invariant-loop-nonterminal l =
    fold (λ a x. a + dots_of_nonterminal x) l.sum (drop l.nonterminal-index l.nonterminal-items) ≡ dots l.self
