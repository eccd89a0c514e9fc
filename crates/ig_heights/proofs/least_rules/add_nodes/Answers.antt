use Rattle.std.proofs.Common.{arith}
use Rattle.ig_heights.proofs.Ruling.{rules_none, nodes_next, upto_nodes}
use Rattle.ig_heights.proofs.least_rules.add_nodes.Goals as goal

pub loop-v-init : goal.loop-v-init
loop-v-init c = rules_none c.args.forest.now c.args.rules.now.items

pub loop-v-preserved : goal.loop-v-preserved
loop-v-preserved c =
    let less = c.loop-v-test.true in let many = c.nodes-nodes.ensures in
    nodes_next c.args.forest.now c.args.rules.now.items c.loop-v.rules.items c.add_node.new.rules.items c.loop-v.v _ c.args.bottom (omega (arith, less, many)) many
    c.requires.bottom c.loop-v.invariant c.in_ok-add_node.ensures

pub returns : goal.returns
returns c =
    upto_nodes c.args.forest.now c.args.rules.now.items c.loop-v.rules.items c.loop-v.v c.nodes-nodes.result c.loop-v.auto.v-end c.loop-v-test.false c.nodes-nodes.ensures
    c.loop-v.invariant
