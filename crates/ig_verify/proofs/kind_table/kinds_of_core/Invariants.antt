use Rattle.std.proofs.Common.{◌≡◌, ◌++◌, drop, map}
use Rattle.ig_verify.specs.Kinds.{rows_of}
use Rattle.ig_verify.proofs.kind_table.kinds_of_core.Given as goal

abbrev pub invariant-loop-nonterminal : goal.invariant-loop-nonterminal
invariant-loop-nonterminal l =
    l.table ++ map rows_of (drop l.nonterminal-index l.nonterminals) ≡ map rows_of l.nonterminals
