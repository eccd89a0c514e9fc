use Rattle.std.proofs.Common.{vec_items}
use Rattle.ig_text.proofs.Emptiness.{emptied}
use Rattle.ig_walker.proofs.Stacks.{goes_on_code, lower_code, never_code, completed_code}
use Rattle.ig_walker.proofs.walk.complete.Goals as goal

pub loop-goal-smaller-in-Continue-branch-2 : goal.loop-goal-smaller-in-Continue-branch-2
loop-goal-smaller-in-Continue-branch-2 c =
    lower_code c.args.forest.now c.root.ensures.trim (vec_items c.loop-goal.pending) (vec_items c.pop.new.self) _ _ c.in-Some.goal c.in-Some-first_option.number
    c.in-Some.ensures.items c.in-Some-first_option.ensures c.in_ok-push_behind.ensures

pub loop-goal-preserved-in-Continue-branch-2 : goal.loop-goal-preserved-in-Continue-branch-2
loop-goal-preserved-in-Continue-branch-2 c =
    goes_on_code c.args.forest.now _ _ (vec_items c.loop-goal.pending) (vec_items c.pop.new.self) _ _ c.in-Some.goal c.in-Some-first_option.number
    (vec_items c.loop-goal.visits) _ c.loop-goal.invariant c.in-Some.ensures.items c.in-Some-first_option.ensures c.in_ok-push_behind.ensures
    c.in_ok-note.ensures

pub loop-goal-smaller : goal.loop-goal-smaller
loop-goal-smaller c =
    absurd (never_code c.args.forest.now _ _ (vec_items c.loop-goal.pending) (vec_items c.pop.new.self) c.in-Some.goal _ c.loop-goal.invariant c.in-Some.ensures.items c.in_default-first_option.ensures)

pub loop-goal-preserved : goal.loop-goal-preserved
loop-goal-preserved c =
    absurd (never_code c.args.forest.now _ _ (vec_items c.loop-goal.pending) (vec_items c.pop.new.self) c.in-Some.goal _ c.loop-goal.invariant c.in-Some.ensures.items c.in_default-first_option.ensures)

pub returns : goal.returns
returns c =
    completed_code c.args.forest.now _ _ (vec_items c.loop-goal.pending) _ c.loop-goal.invariant
    (emptied (vec_items c.loop-goal.pending) _ c.loop-goal.pending.ok.0 c.in_default.ensures.cases.0)
