use Rattle.ig_meaning_examples.proofs.Rows.{hidden_left_recursion_is_permitted}
use Rattle.ig_meaning_examples.proofs.hidden_left_recursion_is_permitted.Goals as goal

pub returns : goal.returns
returns c = hidden_left_recursion_is_permitted c.matches_are_known.ensures
