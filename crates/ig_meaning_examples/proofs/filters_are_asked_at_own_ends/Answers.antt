use Rattle.ig_meaning_examples.proofs.Rows.{filters_are_asked_at_own_ends}
use Rattle.ig_meaning_examples.proofs.filters_are_asked_at_own_ends.Goals as goal

pub returns : goal.returns
returns c = filters_are_asked_at_own_ends c.matches_are_known.ensures
