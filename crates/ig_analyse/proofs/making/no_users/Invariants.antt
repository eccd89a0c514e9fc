use Rattle.std.proofs.Common.{◌≡◌, [], replicate}
use Rattle.ig_analyse.proofs.making.no_users.Given as goal

abbrev pub invariant-loop-number : goal.invariant-loop-number
invariant-loop-number l = l.users.lists ≡ replicate l.number []
