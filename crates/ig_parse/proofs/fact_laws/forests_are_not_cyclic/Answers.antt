use Rattle.ig_parse.proofs.Cycles.{not_cyclic}
use Rattle.ig_parse.proofs.fact_laws.forests_are_not_cyclic.Goals as goal

pub returns : goal.returns
returns c =
    not_cyclic c.heights_are_bounded.ensures c.core_trees_are_permitted_trees.ensures c.cores_are_regular.ensures
    c.cyclic_is_without_highest.ensures
