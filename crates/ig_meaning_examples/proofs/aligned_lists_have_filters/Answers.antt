use Rattle.ig_meaning_examples.proofs.Rows.{aligned_lists_have_filters}
use Rattle.ig_meaning_examples.proofs.aligned_lists_have_filters.Goals as goal

pub returns : goal.returns
returns c = aligned_lists_have_filters c.matches_are_known.ensures
