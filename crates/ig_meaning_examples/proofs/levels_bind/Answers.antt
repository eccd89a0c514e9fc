use Rattle.ig_meaning_examples.proofs.Rows.{levels_bind}
use Rattle.ig_meaning_examples.proofs.levels_bind.Goals as goal

pub returns : goal.returns
returns c = levels_bind c.matches_are_known.ensures
