use Rattle.std.proofs.Common.{vec_items}
use Rattle.ig_walker.proofs.Beginning.{after_shows, after_there, after_none}
use Rattle.ig_walker.proofs.Closing.{after_keeps}
use Rattle.ig_walker.proofs.walker.Walker.after.Goals as goal

pub invariant_of-result : goal.invariant_of-result
invariant_of-result c =
    after_keeps c.args.forest.now c.args.depth (vec_items c.in-Some.visits) _ (rw c.in-Some.is at c.in_ok-visits.ensures)

pub returns-in-Some-clause-there : goal.returns-in-Some-clause-there
returns-in-Some-clause-there c =
    after_there c.args.forest.now c.args.depth c.as_slice.result.now c.args.cursor.now c.as_slice.ensures (vec_items c.in-Some.visits) (rw c.in-Some.is at c.in_ok-visits.ensures)

pub returns-in-Some-clause-behind : goal.returns-in-Some-clause-behind
returns-in-Some-clause-behind c =
    after_shows c.args.forest.now c.args.depth c.as_slice.result.now c.args.cursor.now c.as_slice.ensures (vec_items c.in-Some.visits) (rw c.in-Some.is at c.in_ok-visits.ensures)

pub returns-in-None-clause-refused : goal.returns-in-None-clause-refused
returns-in-None-clause-refused c =
    λ is. after_none c.args.forest.now c.args.depth c.as_slice.result.now c.args.cursor.now c.as_slice.ensures (rw c.in-None.is at c.in_ok-visits.ensures)
