use Rattle.std.proofs.Common.{sym}
use Rattle.ig_walker.proofs.Deciding.{nowhere}
use Rattle.ig_walker.proofs.options.opening_option.Goals as goal

pub returns-else-behind_opens : goal.returns-else-behind_opens
returns-else-behind_opens c =
    nowhere c.args.forest.now c.args.goal c.args.number c.in_ok-behind.behind c.behind_opens.result c.in_ok-behind.ensures c.if-behind_opens.false
    c.behind_opens.ensures

pub returns-then-behind_opens : goal.returns-then-behind_opens
returns-then-behind_opens c = record { has = sym c.in_ok-behind.ensures; opens = c.behind_opens.ensures.0 c.if-behind_opens.true }
