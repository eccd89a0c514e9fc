use Rattle.std.proofs.Common.{◌≡◌, ◌++◌, drop, map}
use Rattle.ig_run_laws.specs.Renamed.{at_or_same}
use Rattle.ig_run_laws.specs.Renaming.{renamed_end}
use Rattle.ig_run_laws.proofs.renaming.add_ends.Given as goal

abbrev pub invariant-loop-end : goal.invariant-loop-end
invariant-loop-end l = record {
  firsts : l.ways.firsts ≡ l.initial.ways.firsts;
  further : l.ways.further ≡ l.initial.ways.further;
  ends : l.ways.ends ++ map (renamed_end (at_or_same l.least)) (drop l.end-index l.ends) ≡
      l.initial.ways.ends ++ map (renamed_end (at_or_same l.least)) l.ends;
}
