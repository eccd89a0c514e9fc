use Rattle.std.proofs.Common.{arith}
use Rattle.ig_grammar.specs.CodingMembers.{node_below}
use Rattle.ig_ebnf.proofs.placing.+placing.Goals as goal

pub push_each-push_new-requires : goal.push_each-push_new-requires
push_each-push_new-requires t c =
    let n = node_below c.as_slice-symbol-items.result.now c.args.symbols.now c.loop-symbol.symbol-index
    c.symbol-item.result c.as_slice-symbol-items.ensures c.loop-symbol-test.true c.symbol-item.is in
    omega arith
