use Rattle.std.proofs.Common.{arith}
use Rattle.ig_plain.proofs.Fewer.{at_most}
use Rattle.ig_plain.proofs.laws.budgets_suffice.Goals as goal

pub returns : goal.returns
returns c core text items has_all more =
    let few = at_most more.items items more.different (λ x h. has_all x (more.reachable x h)) in
    let many = more.more in
    omega (arith, few, many)
