use Rattle.ig_parse.proofs.Queries.{ambiguity_is_two_permitted}
use Rattle.ig_parse.proofs.laws.ambiguity_is_two_permitted.Goals as goal

pub returns : goal.returns
returns c = ambiguity_is_two_permitted c.ambiguity_is_two_trees.ensures
