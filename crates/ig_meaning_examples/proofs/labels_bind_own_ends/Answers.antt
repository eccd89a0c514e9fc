use Rattle.ig_meaning_examples.proofs.Rows.{labels_bind_own_ends}
use Rattle.ig_meaning_examples.proofs.labels_bind_own_ends.Goals as goal

pub returns : goal.returns
returns c = labels_bind_own_ends c.matches_are_known.ensures
