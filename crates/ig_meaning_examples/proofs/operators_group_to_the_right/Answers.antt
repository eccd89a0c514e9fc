use Rattle.ig_meaning_examples.proofs.Rows.{operators_group_to_the_right}
use Rattle.ig_meaning_examples.proofs.operators_group_to_the_right.Goals as goal

pub returns : goal.returns
returns c = operators_group_to_the_right c.matches_are_known.ensures
