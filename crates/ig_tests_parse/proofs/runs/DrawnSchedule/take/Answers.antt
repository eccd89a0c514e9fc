use Rattle.std.proofs.Common.{rules}
use Rattle.std.proofs.lemmas.List.Sorted.{IsPermutation-swap_remove}
use Rattle.ig_tests_parse.proofs.runs.DrawnSchedule.take.Goals as goal

-- the last ticket takes the place of the one that is given
pub returns-clause-some : goal.returns-clause-some
returns-clause-some c =
    rw c.swap_remove-ticket.ensures.items
    (IsPermutation-swap_remove _ _ _ (search rules) c.swap_remove-ticket.ensures.value)
