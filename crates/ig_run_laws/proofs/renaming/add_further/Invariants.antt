use Rattle.std.proofs.Common.{◌≡◌, ◌++◌, drop, map}
use Rattle.ig_run_laws.specs.Renamed.{at_or_same}
use Rattle.ig_run_laws.specs.Renaming.{renamed_further}
use Rattle.ig_run_laws.proofs.renaming.add_further.Given as goal

abbrev pub invariant-loop-way : goal.invariant-loop-way
invariant-loop-way l = record {
  firsts : l.ways.firsts ≡ l.initial.ways.firsts;
  further : l.ways.further ++ map (renamed_further (at_or_same l.least)) (drop l.way-index l.further) ≡
      l.initial.ways.further ++ map (renamed_further (at_or_same l.least)) l.further;
  ends : l.ways.ends ≡ l.initial.ways.ends;
}
