use Rattle.ig_parse.proofs.Queries.{spans_are_permitted}
use Rattle.ig_parse.proofs.laws.spans_are_permitted.Goals as goal

pub returns : goal.returns
returns c = spans_are_permitted c.spans_are_those_of_trees.ensures
