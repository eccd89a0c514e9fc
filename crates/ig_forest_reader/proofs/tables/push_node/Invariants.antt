use Rattle.std.proofs.Common.{◌≡◌, ◌++◌, ◌∷◌, [], take}
use Rattle.ig_forest_reader.proofs.tables.push_node.Given as goal

abbrev pub invariant-loop-choice : goal.invariant-loop-choice
invariant-loop-choice l =
    l.nodes ≡ l.fn.nodes ++ record { row = l.fn.row; alternatives = take l.choice-index l.choices } ∷ []
