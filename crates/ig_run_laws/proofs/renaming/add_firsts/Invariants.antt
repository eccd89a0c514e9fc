use Rattle.std.proofs.Common.{◌≡◌, ◌++◌, drop, map}
use Rattle.ig_run_laws.specs.Renamed.{at_or_same}
use Rattle.ig_run_laws.specs.Renaming.{renamed_way}
use Rattle.ig_run_laws.proofs.renaming.add_firsts.Given as goal

abbrev pub invariant-loop-way : goal.invariant-loop-way
invariant-loop-way l = record {
  firsts : l.ways.firsts ++ map (renamed_way (at_or_same l.least)) (drop l.way-index l.firsts) ≡
      l.initial.ways.firsts ++ map (renamed_way (at_or_same l.least)) l.firsts;
  further : l.ways.further ≡ l.initial.ways.further;
  ends : l.ways.ends ≡ l.initial.ways.ends;
}
