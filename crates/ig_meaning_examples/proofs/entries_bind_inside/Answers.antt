use Rattle.ig_meaning_examples.proofs.Rows.{entries_bind_inside}
use Rattle.ig_meaning_examples.proofs.entries_bind_inside.Goals as goal

pub returns : goal.returns
returns c = entries_bind_inside c.matches_are_known.ensures
