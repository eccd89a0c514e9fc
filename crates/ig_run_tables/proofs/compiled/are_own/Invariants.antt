use Rattle.std.proofs.Common.{◌≡◌, ◌↔◌, Some, drop, map}
use Rattle.ig_run_tables.specs.Compiled.{AreOwn, value_by}
use Rattle.ig_run_tables.proofs.compiled.are_own.Given as goal

abbrev pub invariant-loop-place : goal.invariant-loop-place
invariant-loop-place l =
    (map (value_by l.values l.here) (drop l.place l.forms) ≡ map Some (drop l.place l.values)) ↔ AreOwn l.values l.here l.forms
