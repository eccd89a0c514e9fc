use Rattle.std.proofs.Common.{◌≡◌, ◌++◌, drop, map}
use Rattle.ig_run_tables.specs.Names.{dots_of_alternatives}
use Rattle.ig_run_tables.proofs.names.dots_of_core.Given as goal

abbrev pub invariant-loop-nonterminal : goal.invariant-loop-nonterminal
invariant-loop-nonterminal l =
    l.rows ++ map dots_of_alternatives (drop l.nonterminal-index l.nonterminals) ≡ map dots_of_alternatives l.nonterminals
