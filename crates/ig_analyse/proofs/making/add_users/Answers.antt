use Rattle.std.proofs.Common.{arith}
use Rattle.std.proofs.lemmas.List.Elements.{Contains-get_or}
use Rattle.ig_analyse.proofs.making.add_users.Goals as goal

pub add-requires : goal.add-requires
add-requires c =
    let l = c.requires _ (Contains-get_or c.args.callees.now c.loop-callee.callee-index 0 c.loop-callee-test.true) in
    let m = c.loop-callee.invariant.1 in
    let e = c.of.ensures in omega (arith, l, m, e)
