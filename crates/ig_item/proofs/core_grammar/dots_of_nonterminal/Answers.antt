use Rattle.std.proofs.Common.{◌+◌, ◌≤◌, arith}
use Rattle.ig_item.specs.Core.{dots_of_alternative, dots_of_nonterminal}
use Rattle.ig_item.proofs.Sums.{step_within}
use Rattle.ig_item.proofs.core_grammar.dots_of_nonterminal.Goals as goal

pub dots_of_alternative-sum-requires : goal.dots_of_alternative-sum-requires
dots_of_alternative-sum-requires c =
    let next : c.loop-alternative.sum + dots_of_alternative c.alternative-item.result ≤ dots_of_nonterminal c.args.nonterminal.now =
    step_within dots_of_alternative c.loop-alternative.sum c.as_slice-alternative-items.result.now
    c.loop-alternative.alternative-index c.alternative-item.result _ c.loop-alternative-test.true c.alternative-item.is
    c.loop-alternative.invariant in
    omega (arith, next, c.requires)

pub overflow_add-sum : goal.overflow_add-sum
overflow_add-sum c =
    let next : c.loop-alternative.sum + dots_of_alternative c.alternative-item.result ≤ dots_of_nonterminal c.args.nonterminal.now =
    step_within dots_of_alternative c.loop-alternative.sum c.as_slice-alternative-items.result.now
    c.loop-alternative.alternative-index c.alternative-item.result _ c.loop-alternative-test.true c.alternative-item.is
    c.loop-alternative.invariant in
    omega (arith, next, c.requires, c.dots_of_alternative-sum.ensures)
