use Rattle.ig_forest_reader.proofs.Reading.{Reading}
use Rattle.ig_forest_reader.proofs.fronts.read_number.Given as goal

abbrev pub invariant-loop-place : goal.invariant-loop-place
invariant-loop-place l = Reading l.bytes l.number l.place
