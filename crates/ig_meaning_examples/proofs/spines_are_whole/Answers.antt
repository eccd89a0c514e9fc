use Rattle.ig_meaning_examples.proofs.Rows.{spines_are_whole}
use Rattle.ig_meaning_examples.proofs.spines_are_whole.Goals as goal

pub returns : goal.returns
returns c = spines_are_whole c.matches_are_known.ensures
