use Rattle.std.proofs.Common.{◌-◌, arith}
use Rattle.ig_heights.proofs.Rounds.{walk_begins, rule_fits, walk_falls, walk_goes, walk_ends, few_rounds}
use Rattle.ig_heights.proofs.work.Work.visit.Goals as goal

pub loop-behind-init : goal.loop-behind-init
loop-behind-init c =
    walk_begins c.args.table.now c.args.uses.now c.requires.uses c.args.part c.args.self.now c.last-behind.result c.requires.there
    c.last-behind.ensures c.requires.part c.requires.work

pub look-requires-clause-few : goal.look-requires-clause-few
look-requires-clause-few c =
    few_rounds c.args.table.now c.loop-behind.self _ c.args.table.now.few c.loop-behind.invariant.visits.works

pub look-requires-clause-fits : goal.look-requires-clause-fits
look-requires-clause-fits c =
    rule_fits c.args.table.now c.args.uses.now c.requires.uses c.args.part c.args.self.now c.loop-behind.self c.loop-behind.behind
    c.loop-behind.invariant (c.loop-behind.behind - 1) c.index-rule.result.now (omega (arith, c.loop-behind-test.true)) c.index-rule.ensures

pub loop-behind-smaller : goal.loop-behind-smaller
loop-behind-smaller c =
    walk_falls c.args.table.now c.args.uses.now c.requires.uses c.args.part c.args.self.now c.loop-behind.self c.loop-behind.behind
    c.loop-behind.invariant (c.loop-behind.behind - 1) c.index-rule.result.now (omega (arith, c.loop-behind-test.true)) c.index-rule.ensures
    c.before-behind.result c.before-behind.ensures

pub loop-behind-preserved : goal.loop-behind-preserved
loop-behind-preserved c =
    walk_goes c.args.table.now c.args.uses.now c.requires.uses c.args.part c.args.self.now c.loop-behind.self c.loop-behind.behind
    c.loop-behind.invariant (c.loop-behind.behind - 1) c.index-rule.result.now (omega (arith, c.loop-behind-test.true)) c.index-rule.ensures
    c.look.new.self c.before-behind.result c.before-behind.ensures c.in_ok-look.ensures

pub returns : goal.returns
returns c =
    let v = walk_ends c.args.table.now c.args.uses.now c.requires.uses c.args.part c.args.self.now c.loop-behind.self c.loop-behind.behind
    c.loop-behind.invariant c.loop-behind-test.false in
    record { work = v.works; less = v.less }
