use Rattle.std.proofs.Common.{◌≡◌, map, take}
use Rattle.ig_forest.proofs.builder.copied_names.Given as goal

abbrev pub invariant-loop-nt : goal.invariant-loop-nt
invariant-loop-nt l = l.names ≡ map (λ n. n.name) (take l.nt l.core)
