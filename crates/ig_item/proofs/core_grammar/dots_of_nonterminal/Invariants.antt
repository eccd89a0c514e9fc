use Rattle.std.proofs.Common.{◌≡◌, ◌+◌, drop}
use Rattle.std.specs.List.{fold}
use Rattle.ig_item.specs.Core.{dots_of_alternative, dots_of_nonterminal}
use Rattle.ig_item.proofs.core_grammar.dots_of_nonterminal.Given as goal

abbrev pub invariant-loop-alternative : goal.invariant-loop-alternative
invariant-loop-alternative l =
    fold (λ a x. a + dots_of_alternative x) l.sum (drop l.alternative-index l.alternative-items) ≡
    dots_of_nonterminal l.nonterminal
