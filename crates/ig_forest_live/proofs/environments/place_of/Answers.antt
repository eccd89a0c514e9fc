use Rattle.ig_forest_live.proofs.CodeEnvironments.{found_place, no_place}
use Rattle.ig_forest_live.proofs.environments.place_of.Goals as goal

pub returns-in-Ok : goal.returns-in-Ok
returns-in-Ok c = found_place c.args.lists.now c.args.list c.in-Ok.place c.in-Ok.ensures.bound c.in-Ok.ensures.position

pub returns-in-Err : goal.returns-in-Err
returns-in-Err c = no_place c.args.lists.now c.args.list c.in-Err.field-0 c.requires.order c.in-Err.ensures.position
