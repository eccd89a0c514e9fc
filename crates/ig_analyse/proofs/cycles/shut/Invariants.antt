use Rattle.std.proofs.Common.{◌≡◌, ℕ, List}
use Rattle.ig_analyse.specs.Groups.{Closes, left_to_see}
use Rattle.ig_analyse.proofs.cycles.shut.Given as goal

abbrev pub invariant-loop-index : goal.invariant-loop-index
invariant-loop-index l =
    Closes l.path l.first l.index l.mark l.fn.seen.items l.fn.marks.items l.seen.items l.marks.items ×
    ((rows : List (List ℕ)) → left_to_see rows l.seen.items ≡ left_to_see rows l.fn.seen.items)
