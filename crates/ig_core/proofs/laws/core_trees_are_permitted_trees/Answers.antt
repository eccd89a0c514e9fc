use Rattle.ig_core.proofs.Passes.{trees_permitted}
use Rattle.ig_core.proofs.laws.core_trees_are_permitted_trees.Goals as goal

pub returns : goal.returns
returns c = trees_permitted c.trees_without_operators_are_clean.ensures c.passes_keep.ensures
