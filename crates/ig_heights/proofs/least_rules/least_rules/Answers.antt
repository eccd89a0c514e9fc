use Rattle.std.proofs.Common.{arith, ap₂, ◌+◌, ℕ}
use Rattle.ig_heights.proofs.Ruling.{all_fit, table_least}
use Rattle.ig_heights.proofs.least_rules.least_rules.Goals as goal

pub invariant_of-result-clause-fit : goal.invariant_of-result-clause-fit
invariant_of-result-clause-fit c =
    let n = c.nodes-nodes.ensures in let i = c.items.ensures in
    all_fit c.args.forest.now c.root.ensures.trim.forest c.in_ok-rules.rules.items c.add_nodes.new.rules.items c.add_items.new.rules.items
    c.in_ok-rules.ensures.items c.in_ok-add_nodes.ensures c.in_ok-add_items.ensures _ (omega (arith, n, i))

pub returns : goal.returns
returns c =
    let n = c.nodes-nodes.ensures in let i = c.items.ensures in
    table_least c.args.forest.now c.root.ensures.trim.forest _ c.in_ok-rules.rules.items c.add_nodes.new.rules.items n (ap₂ (λ (a b : ℕ). a + b) n i) (omega arith)
    c.in_ok-rules.ensures.items c.in_ok-add_nodes.ensures c.in_ok-add_items.ensures
