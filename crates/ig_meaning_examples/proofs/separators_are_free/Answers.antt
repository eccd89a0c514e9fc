use Rattle.ig_meaning_examples.proofs.Rows.{separators_are_free}
use Rattle.ig_meaning_examples.proofs.separators_are_free.Goals as goal

pub returns : goal.returns
returns c = separators_are_free c.matches_are_known.ensures
