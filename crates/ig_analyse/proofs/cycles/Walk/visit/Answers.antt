use Rattle.std.proofs.Common.{◌<◌, length, arith}
use Rattle.ig_analyse.proofs.Going.{visit_enters, visit_rests, read_at, ok_both}
use Rattle.ig_analyse.proofs.cycles.Walk.visit.Goals as goal

pub finish-requires-clause-walks : goal.finish-requires-clause-walks
finish-requires-clause-walks c =
    let within : c.args.number < length c.args.self.now.seen.items =
    (let a = c.requires.number in
    let b = c.requires.rests.walks.seen_long in omega (arith, a, b)) in
    (visit_enters c.args.rows.now c.args.number c.args.self.now c.enter.new.self c.requires.rests c.in_ok-enter.ensures
    (read_at c.args.self.now.seen.items c.args.number c.index.result.now _ within c.index.ensures c.in-New.is)).walk

pub returns : goal.returns
returns c =
    let within : c.args.number < length c.args.self.now.seen.items =
    (let a = c.requires.number in
    let b = c.requires.rests.walks.seen_long in omega (arith, a, b)) in
    ok_both c.finish.result
    (λ g e. visit_rests c.args.rows.now c.args.number c.args.self.now c.enter.new.self c.finish.new.self _ c.requires.rests c.in_ok-enter.ensures
    (read_at c.args.self.now.seen.items c.args.number c.index.result.now _ within c.index.ensures c.in-New.is) g e)
    c.finish.ensures.goes c.finish.ensures.closed
