use Rattle.std.proofs.Common.{arith}
use Rattle.ig_analyse.proofs.Counting.{works_begin, works_go, read_member}
use Rattle.ig_analyse.proofs.making.Work.begin.Goals as goal

pub loop-rule-init : goal.loop-rule-init
loop-rule-init c =
    works_begin c.args.rules.now c.args.count _ (c.in_ok-marks.ensures.items_if_clones_equal (λ y e. e)) c.new-2.ensures.items
    c.new.ensures.items

pub begin_rule-requires : goal.begin_rule-requires
begin_rule-requires c =
    let l = c.requires.heads c.loop-rule.rule-index c.rule-item.result
    (read_member c.args.rules.now c.loop-rule.rule-index c.rule-item.result c.loop-rule-test.true c.rule-item.is) in
    let m = c.loop-rule.invariant.made.long in omega (arith, l, m)

pub loop-rule-preserved : goal.loop-rule-preserved
loop-rule-preserved c =
    works_go c.args.rules.now c.args.count c.loop-rule.rule-index c.rule-item.result c.loop-rule.work c.begin_rule.new.self
    c.loop-rule.invariant c.in_ok-begin_rule.ensures
    (read_member c.args.rules.now c.loop-rule.rule-index c.rule-item.result c.loop-rule-test.true c.rule-item.is) c.requires
