use Rattle.ig_engine.specs.Reached.{reached}
use Rattle.ig_engine.proofs.Ended.{environments_there, instances_there, recorded_by, values_there}
use Rattle.ig_engine.proofs.ending.recorded.Goals as goal

pub finish-requires-clause-values : goal.finish-requires-clause-values
finish-requires-clause-values g c =
    values_there (reached c.args.state.envs.keys c.args.state.stacks c.args.state.found) _ c.requires.tables c.in_ok-keys.ensures

pub finish-requires-clause-instances : goal.finish-requires-clause-instances
finish-requires-clause-instances g c =
    instances_there (reached c.args.state.envs.keys c.args.state.stacks c.args.state.found) _ _ c.requires.tables c.in_ok-keys.ensures
    c.in_ok-items.ensures.items

pub finish-requires-clause-environments : goal.finish-requires-clause-environments
finish-requires-clause-environments g c =
    environments_there (reached c.args.state.envs.keys c.args.state.stacks c.args.state.found) _ c.requires.tables c.in_ok-items.ensures.items

pub finish-requires-clause-recorded : goal.finish-requires-clause-recorded
finish-requires-clause-recorded g c =
    recorded_by c.ended_runs_are_complete.ensures c.ended_runs_have_ways.ensures c.named_items_are_of_tables.ensures c.args.core.now c.args.text.now
    (reached c.args.state.envs.keys c.args.state.stacks c.args.state.found) c.requires.tables c.requires.whole c.requires.ended _ _ _
    c.in_ok-keys.ensures c.in_ok-items.ensures.items c.in_ok-items.ensures.ways
