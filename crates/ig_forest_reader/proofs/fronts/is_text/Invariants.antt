use Rattle.std.proofs.Common.{◌≡◌, ◌↔◌, drop}
use Rattle.ig_forest_reader.proofs.fronts.is_text.Given as goal

abbrev pub invariant-loop-place : goal.invariant-loop-place
invariant-loop-place l = (drop l.place l.bytes ≡ drop l.place l.text) ↔ (l.bytes ≡ l.text)
