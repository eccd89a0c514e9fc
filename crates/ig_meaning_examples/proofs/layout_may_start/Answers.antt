use Rattle.ig_meaning_examples.proofs.Rows.{layout_may_start}
use Rattle.ig_meaning_examples.proofs.layout_may_start.Goals as goal

pub returns : goal.returns
returns c = layout_may_start c.matches_are_known.ensures
