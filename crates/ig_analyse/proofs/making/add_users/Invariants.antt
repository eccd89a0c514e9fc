use Rattle.std.proofs.Common.{◌≡◌, length, drop}
use Rattle.ig_analyse.specs.Rules.{added_users}
use Rattle.ig_analyse.proofs.making.add_users.Given as goal

abbrev pub invariant-loop-callee : goal.invariant-loop-callee
invariant-loop-callee l =
    (added_users l.number l.users.lists (drop l.callee-index l.callees) ≡ added_users l.number l.fn.users.lists l.callees) ×
    (length l.users.lists ≡ length l.fn.users.lists)
