use Rattle.ig_meaning_examples.proofs.Rows.{comparisons_stand_alone}
use Rattle.ig_meaning_examples.proofs.comparisons_stand_alone.Goals as goal

pub returns : goal.returns
returns c = comparisons_stand_alone c.matches_are_known.ensures
