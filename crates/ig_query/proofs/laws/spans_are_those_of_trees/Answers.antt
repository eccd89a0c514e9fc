use Rattle.ig_query.proofs.NamedSpans.{spans_are_those_of_trees}
use Rattle.ig_query.proofs.laws.spans_are_those_of_trees.Goals as goal

pub returns : goal.returns
returns c = spans_are_those_of_trees c.reduced_forest_is_trim.ensures c.trim_forest_has_trees.ensures
