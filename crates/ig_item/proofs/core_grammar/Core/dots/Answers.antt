use Rattle.std.proofs.Common.{◌≡◌, ◌+◌, ◌≤◌, arith, ap}
use Rattle.ig_item.specs.Core.{dots, dots_of_nonterminal}
use Rattle.ig_item.specs.Limits.{most_dots}
use Rattle.ig_item.proofs.Sums.{step_within}
use Rattle.ig_item.proofs.core_grammar.Core.dots.Goals as goal

pub overflow_add-sum : goal.overflow_add-sum
overflow_add-sum c =
    let next : c.loop-nonterminal.sum + dots_of_nonterminal c.nonterminal-item.result ≤ dots c.args.self.now =
    step_within dots_of_nonterminal c.loop-nonterminal.sum c.as_slice-nonterminal-items.result.now
    c.loop-nonterminal.nonterminal-index c.nonterminal-item.result _ c.loop-nonterminal-test.true c.nonterminal-item.is
    c.loop-nonterminal.invariant in
    let few : dots c.self.inside.nonterminals ≤ most_dots = c.self.invariant.few_dots in
    let same : dots c.self.inside.nonterminals ≡ dots c.args.self.now = ap dots c.self.view_is in
    omega (arith, next, few, same, c.dots_of_nonterminal-sum.ensures)
