use Rattle.ig_meaning_examples.proofs.Rows.{guards_want_a_value}
use Rattle.ig_meaning_examples.proofs.guards_want_a_value.Goals as goal

pub returns : goal.returns
returns c = guards_want_a_value c.matches_are_known.ensures
