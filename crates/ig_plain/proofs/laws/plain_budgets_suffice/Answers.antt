use Rattle.std.proofs.Common.{arith, length}
use Rattle.ig_plain.proofs.Fewer.{at_most}
use Rattle.ig_plain.proofs.Triangle.{times_stretches}
use Rattle.ig_plain.proofs.PlainItems.{plain_items, length-plain_items, has_reachable}
use Rattle.ig_item.specs.Core.{dots}
use Rattle.ig_plain.proofs.laws.plain_budgets_suffice.Goals as goal

pub returns : goal.returns
returns c core text budget well plain enough more =
    let reached = has_reachable c.environments_fit.ensures c.items_are_in_text.ensures core text well plain in
    let few = at_most more.items (plain_items core (length text.characters)) more.different (λ x h. reached x (more.reachable x h)) in
    let long = length-plain_items core (length text.characters) in
    let bound = times_stretches (dots core) (length text.characters) in
    let many = more.more in
    omega (arith, few, long, bound, many, enough)
