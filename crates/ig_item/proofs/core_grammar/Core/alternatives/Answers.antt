use Rattle.std.proofs.Common.{◌≡◌, Some, length, slice_get, arith, ap, sym}
use Rattle.ig_item.proofs.Sums.{alternatives_are_few}
use Rattle.ig_item.proofs.core_grammar.Core.alternatives.Goals as goal

pub overflow_cast-result : goal.overflow_cast-result
overflow_cast-result c =
    let nonterminal = c.in_ok-nonterminal.nonterminal.now in
    let at : slice_get c.args.self.now c.args.nt ≡ Some nonterminal = sym c.in_ok-nonterminal.ensures.there in
    let few = alternatives_are_few c.args.self.now c.args.nt nonterminal at in
    let same : length c.as_slice.result.now ≡ length nonterminal.alternatives = ap length c.as_slice.ensures in
    omega (arith, few, same, c.in_ok-nonterminal.ensures.few)
