use Rattle.std.specs.Prelude.{Ok}
use Rattle.ig_item.specs.Tables.{instance_by}
use Rattle.ig_item.specs.declared.ways.Way.TheVariants.{Begin}
use Rattle.ig_plain.specs.Found.{Adds}
use Rattle.ig_plain.specs.Rules.{IsFirst}
use Rattle.ig_plain.specs.Trail.{By, Records}
use Rattle.ig_plain.proofs.run.add_firsts.Given as goal

abbrev pub invariant-loop-alternative : goal.invariant-loop-alternative
invariant-loop-alternative l =
    record {
      adds : Adds l.key.start (IsFirst l.context.core.now (instance_by l.initial.found.envs.keys l.key) l.alternative) l.context.budget l.initial.found l.found (Ok tt);
      ways : Records (By Begin (IsFirst l.context.core.now (instance_by l.initial.found.envs.keys l.key) l.alternative)) l.initial.found l.found
          l.initial.trail l.trail;
    }
