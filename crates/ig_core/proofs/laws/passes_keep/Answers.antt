use Rattle.ig_core.proofs.Passes.{passes_keep}
use Rattle.ig_core.proofs.laws.passes_keep.Goals as goal

pub returns : goal.returns
returns c = passes_keep c.passes_in_turn.ensures c.same_trees_is_an_equivalence.ensures
