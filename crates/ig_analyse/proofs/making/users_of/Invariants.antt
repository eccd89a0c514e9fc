use Rattle.ig_analyse.proofs.Counting.{AreUsersTo}
use Rattle.ig_analyse.proofs.making.users_of.Given as goal

abbrev pub invariant-loop-number : goal.invariant-loop-number
invariant-loop-number l = AreUsersTo l.count l.rules l.users.lists l.number
