use Rattle.std.proofs.Common.{arith, ap, length}
use Rattle.ig_heights.proofs.Using.{uses_none, rule_fits, uses_next, uses_all}
use Rattle.ig_heights.proofs.uses.uses_of.Goals as goal

pub loop-rule-init : goal.loop-rule-init
loop-rule-init c =
    uses_none c.args.table.now.rules.items c.args.table.now.parts _ (c.in_ok-last.ensures.items_if_clones_equal (λ y e. e)) c.in_ok-earlier.ensures.items

pub add-requires : goal.add-requires
add-requires c =
    rule_fits c.args.table.now c.deref-rule-items.result.now c.deref-rule-items.ensures.value c.loop-rule.rule-index _ c.loop-rule-test.true
    c.loop-rule.uses c.loop-rule.invariant

pub loop-rule-preserved : goal.loop-rule-preserved
loop-rule-preserved c =
    uses_next c.args.table.now c.deref-rule-items.result.now c.deref-rule-items.ensures.value c.loop-rule.rule-index _ c.loop-rule-test.true
    c.loop-rule.uses c.add.new.self c.loop-rule.invariant c.in_ok-add.ensures

pub returns : goal.returns
returns c =
    let past = c.loop-rule-test.false in let many = ap length c.deref-rule-items.ensures.value in
    uses_all c.args.table.now c.loop-rule.rule-index c.loop-rule.uses (omega (arith, past, many)) c.loop-rule.invariant
