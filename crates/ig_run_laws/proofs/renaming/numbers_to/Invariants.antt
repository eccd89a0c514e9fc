use Rattle.std.proofs.Common.{◌≡◌, ℕ, length}
use Rattle.ig_run_laws.specs.Renamed.{at_or_same}
use Rattle.ig_run_laws.proofs.renaming.numbers_to.Given as goal

abbrev pub invariant-loop-number : goal.invariant-loop-number
invariant-loop-number l = record {
  long : length l.table.items ≡ l.number;
  same : (d : ℕ) → at_or_same l.table.items d ≡ d;
}
