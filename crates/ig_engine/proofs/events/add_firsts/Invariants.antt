use Rattle.std.specs.Prelude.{◌≡◌}
use Rattle.ig_item.specs.Tables.{instance_by}
use Rattle.ig_item.specs.declared.ways.Way.TheVariants.{Begin}
use Rattle.ig_engine.specs.Adding.{By, IsAdded}
use Rattle.ig_engine.specs.Reached.{reached}
use Rattle.ig_engine.proofs.Firsts.{IsFirst}
use Rattle.ig_engine.proofs.events.add_firsts.Given as goal

abbrev pub invariant-loop-alternative : goal.invariant-loop-alternative
invariant-loop-alternative g l = record {
  envs : l.state.envs ≡ l.initial.state.envs;
  stacks : l.state.stacks ≡ l.initial.state.stacks;
  indexed : l.state.found.indexed ≡ l.initial.state.found.indexed;
  adds : IsAdded (By Begin (IsFirst l.context.core.now (instance_by l.initial.state.envs.keys l.key) l.alternative)) l.context.budget
      (reached l.initial.state.envs.keys l.initial.state.stacks l.initial.state.found)
      (reached l.initial.state.envs.keys l.initial.state.stacks l.state.found);
}
