use Rattle.std.proofs.Common.{arith, refl}
use Rattle.ig_heights.proofs.Rounds.{few_rounds}
use Rattle.ig_heights.proofs.Turns.{taken, ended}
use Rattle.ig_heights.proofs.work.least_heights.Goals as goal

pub take-requires : goal.take-requires
take-requires c = record { few = few_rounds c.args.table.now c.loop-part.work _ c.args.table.now.few c.loop-part.invariant }

pub visit-requires-clause-uses : goal.visit-requires-clause-uses
visit-requires-clause-uses c = c.in_ok-uses.ensures

pub visit-requires-clause-there : goal.visit-requires-clause-there
visit-requires-clause-there c =
    (taken c.args.table.now c.loop-part.work c.take.new.self c.in-Some.part _ refl c.loop-part.invariant c.in-Some.ensures).inside

pub visit-requires-clause-part : goal.visit-requires-clause-part
visit-requires-clause-part c =
    (taken c.args.table.now c.loop-part.work c.take.new.self c.in-Some.part _ refl c.loop-part.invariant c.in-Some.ensures).round

pub visit-requires-clause-work : goal.visit-requires-clause-work
visit-requires-clause-work c =
    (taken c.args.table.now c.loop-part.work c.take.new.self c.in-Some.part _ refl c.loop-part.invariant c.in-Some.ensures).works

pub loop-part-smaller : goal.loop-part-smaller
loop-part-smaller c =
    let l = (taken c.args.table.now c.loop-part.work c.take.new.self c.in-Some.part _ refl c.loop-part.invariant c.in-Some.ensures).less in
    let v = c.in_ok-visit.ensures.less in omega (arith, l, v)

pub loop-part-preserved : goal.loop-part-preserved
loop-part-preserved c = c.in_ok-visit.ensures.work

pub returns : goal.returns
returns c = ended c.args.table.now c.loop-part.work c.take.new.self _ refl c.loop-part.invariant c.in_default.ensures
