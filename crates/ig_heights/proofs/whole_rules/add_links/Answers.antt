use Rattle.ig_heights.proofs.Linking.{links_none, links_step, links_all}
use Rattle.ig_heights.proofs.whole_rules.add_links.Goals as goal

pub loop-rule-init : goal.loop-rule-init
loop-rule-init c =
    links_none c.args.least.now.bottom c.args.least.now.rules.items c.args.links.now.items c.in_ok-last.last.items c.requires.none
    (c.in_ok-last.ensures.items_if_clones_equal (λ y e. e))

pub add_rule-requires-clause-bottom : goal.add_rule-requires-clause-bottom
add_rule-requires-clause-bottom c = c.args.least.now.small

pub add_rule-requires-clause-last : goal.add_rule-requires-clause-last
add_rule-requires-clause-last c = c.loop-rule.invariant.long

pub loop-rule-preserved : goal.loop-rule-preserved
loop-rule-preserved c =
    links_step c.args.least.now c.requires.parts c.deref-rule-items.result.now c.deref-rule-items.ensures.value c.loop-rule.rule-index _
    c.loop-rule.links.items c.add_rule.new.links.items c.loop-rule.last.items c.add_rule.new.last.items c.loop-rule-test.true c.loop-rule.invariant
    c.in_ok-add_rule.ensures

pub returns : goal.returns
returns c =
    links_all c.args.least.now c.requires.parts c.deref-rule-items.result.now c.deref-rule-items.ensures.value c.loop-rule.rule-index
    c.loop-rule.links.items c.loop-rule.last.items c.loop-rule-test.false c.loop-rule.invariant
