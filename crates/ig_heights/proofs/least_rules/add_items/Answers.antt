use Rattle.std.proofs.Common.{arith}
use Rattle.ig_heights.proofs.Ruling.{rules_none, items_next, upto_items}
use Rattle.ig_heights.proofs.least_rules.add_items.Goals as goal

pub loop-k-init : goal.loop-k-init
loop-k-init c = rules_none c.args.forest.now c.args.rules.now.items

pub loop-k-preserved : goal.loop-k-preserved
loop-k-preserved c =
    let less = c.loop-k-test.true in let many = c.items-k-end.ensures in
    items_next c.args.forest.now c.args.rules.now.items c.loop-k.rules.items c.add_item.new.rules.items c.loop-k.k c.args.nodes c.args.bottom
    (omega (arith, less, many)) c.requires.nodes c.requires.bottom c.loop-k.invariant c.in_ok-add_item.ensures

pub returns : goal.returns
returns c =
    upto_items c.args.forest.now c.args.rules.now.items c.loop-k.rules.items c.loop-k.k c.items-k-end.result c.loop-k.auto.k-end c.loop-k-test.false c.items-k-end.ensures
    c.loop-k.invariant
