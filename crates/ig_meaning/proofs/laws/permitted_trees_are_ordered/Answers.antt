use Rattle.ig_meaning.proofs.Listing.{ordered}
use Rattle.ig_meaning.proofs.laws.permitted_trees_are_ordered.Goals as goal

pub returns : goal.returns
returns c = ordered c.trees_are_ordered.ensures
