use Rattle.std.proofs.Common.{take, length, Contains, ◌<◌}
use Rattle.ig_item.specs.declared.ways.FurtherEnd.{FurtherEnd}
use Rattle.ig_run_laws.specs.Renaming.{GivesLeast}
use Rattle.ig_run_laws.specs.Renamed.{at_or_same}
use Rattle.ig_run_laws.proofs.renaming.least_of.Given as goal

abbrev pub invariant-loop-end : goal.invariant-loop-end
invariant-loop-end l = record {
  gives : GivesLeast (take l.end-index l.ends) (at_or_same l.table.items);
  within : (e : FurtherEnd) → Contains l.ends e → e.first < length l.table.items;
}
