use Rattle.std.proofs.Common.{◌≡◌, ◌++◌, drop, map}
use Rattle.ig_verify.specs.Kinds.{row_of}
use Rattle.ig_verify.proofs.kind_table.kinds_of_nonterminal.Given as goal

abbrev pub invariant-loop-alternative : goal.invariant-loop-alternative
invariant-loop-alternative l =
    l.rows ++ map (row_of l.nonterminal) (drop l.alternative-index l.alternatives) ≡
    map (row_of l.nonterminal) l.alternatives
