use Rattle.std.proofs.lemmas.List.Sorted.{IsPermutation-sym, IsPermutation-to_front}
use Rattle.ig_tests_parse.proofs.runs.DrawnSchedule.put.Goals as goal

pub returns-clause-ok : goal.returns-clause-ok
returns-clause-ok c = rw c.in_ok-push.ensures.items (IsPermutation-sym _ _ (IsPermutation-to_front _ _))
