use Rattle.ig_walker.proofs.Deciding.{same_behind, nothing_decided, both_decided, first_decided}
use Rattle.ig_walker.proofs.options.behind_opens.Goals as goal

pub returns-in-Nothing : goal.returns-in-Nothing
returns-in-Nothing c = nothing_decided c.args.forest.now c.args.behind c.in-Nothing.is

pub returns-in-One : goal.returns-in-One
returns-in-One c = same_behind c.args.forest.now _ c.args.behind _ c.in-One.is c.goal_opens.ensures

pub returns-then-goal_opens : goal.returns-then-goal_opens
returns-then-goal_opens c =
    both_decided c.args.forest.now c.args.behind c.in-Two.first c.in-Two.second c.goal_opens-in-Two.result _ c.in-Two.is c.if-goal_opens.true
    c.goal_opens-in-Two.ensures c.goal_opens-then-goal_opens.ensures

pub returns-else-goal_opens : goal.returns-else-goal_opens
returns-else-goal_opens c =
    first_decided c.args.forest.now c.args.behind c.in-Two.first c.in-Two.second _ c.in-Two.is c.if-goal_opens.false c.goal_opens-in-Two.ensures
