use Rattle.ig_forest_live.proofs.CodeEnvironments.{are_lists}
use Rattle.ig_forest_live.proofs.environments.lists_of.Goals as goal

pub returns-clause-lists : goal.returns-clause-lists
returns-clause-lists c =
    are_lists c.args.items.now.environments c.in_ok-lists.lists.items c.sort_unstable.new.self.items c.dedup.new.self.items
    c.in_ok-lists.ensures.lists c.sort_unstable.ensures.permutation c.sort_unstable.ensures.sorted c.dedup.ensures.filtered
