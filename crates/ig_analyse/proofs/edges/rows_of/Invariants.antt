use Rattle.std.proofs.Common.{◌≡◌, ◌++◌, map, drop}
use Rattle.ig_analyse.specs.Rows.{row_of, rows_of}
use Rattle.ig_analyse.proofs.edges.rows_of.Given as goal

abbrev pub invariant-loop-nonterminal : goal.invariant-loop-nonterminal
invariant-loop-nonterminal l =
    l.rows.items ++ map (row_of l.leading l.nullable) (drop l.nonterminal-index l.nonterminal-items) ≡ rows_of l.leading l.nullable l.core
