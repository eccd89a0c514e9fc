use Rattle.std.proofs.Common.{◌≡◌, ◌++◌, drop, map}
use Rattle.ig_run_tables.specs.Names.{dots_of}
use Rattle.ig_run_tables.proofs.names.dots_of_alternatives.Given as goal

abbrev pub invariant-loop-alternative : goal.invariant-loop-alternative
invariant-loop-alternative l =
    l.rows ++ map (λ a. dots_of l.params a.steps) (drop l.alternative-index l.alternatives) ≡
    map (λ a. dots_of l.params a.steps) l.alternatives
