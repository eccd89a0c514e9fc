use Rattle.ig_engine.proofs.Adding.{firsts_of, returns_of}
use Rattle.ig_engine.proofs.returns.add_behind_call.Goals as goal

pub push-requires : goal.push-requires
push-requires g c = c.requires.new c.if-edge.true

pub returns-then-edge : goal.returns-then-edge
returns-then-edge g c =
    firsts_of c.args.found.now c.push.new.self c.args.item c.args.edge.item c.args.done c.args.edge.is_first c.args.budget c.push.result
    (c.requires.new c.if-edge.true) c.if-edge.true c.push.ensures.indexed c.push.ensures.pushed c.push.ensures.within c.push.ensures.over

pub add_returned-requires : goal.add_returned-requires
add_returned-requires g c = c.requires.indexed c.if-edge.false

pub returns : goal.returns
returns g c =
    returns_of c.args.found.now c.add_returned.new.self c.args.item c.args.edge.item c.args.done c.args.edge.is_first c.args.budget
    c.add_returned.result c.if-edge.false c.add_returned.ensures.returned c.add_returned.ensures.within c.add_returned.ensures.over
