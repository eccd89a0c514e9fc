use Rattle.std.proofs.Common.{subst, sym}
use Rattle.ig_engine.specs.Adding.{AddsBehind}
use Rattle.ig_engine.proofs.Adding.{pushes_of}
use Rattle.ig_engine.proofs.events.add_behind.Goals as goal

pub push-requires : goal.push-requires
push-requires g c = c.requires c.in-Some.item c.in-Some.is

pub returns-in-Some-clause-adds : goal.returns-in-Some-clause-adds
returns-in-Some-clause-adds g c =
    subst (λ z. AddsBehind c.args.found.now c.push.new.self z c.args.way c.args.budget c.push.result) (sym c.in-Some.is)
    (pushes_of c.args.found.now c.push.new.self c.in-Some.item c.args.way c.args.budget c.push.result c.push.ensures.pushed c.push.ensures.within
    c.push.ensures.over)
