use Rattle.std.proofs.Common.{◌≡◌, ◌++◌, drop}
use Rattle.std.specs.List.{flat_map}
use Rattle.ig_analyse.specs.Rows.{chosen, row_of}
use Rattle.ig_analyse.proofs.edges.row_of.Given as goal

abbrev pub invariant-loop-alternative : goal.invariant-loop-alternative
invariant-loop-alternative l =
    l.row.items ++ flat_map (λ a. chosen l.leading l.nullable a.steps) (drop l.alternative-index l.alternative-items) ≡
    row_of l.leading l.nullable l.nonterminal
