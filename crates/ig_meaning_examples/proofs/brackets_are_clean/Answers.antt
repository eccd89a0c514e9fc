use Rattle.ig_meaning_examples.proofs.Rows.{brackets_are_clean}
use Rattle.ig_meaning_examples.proofs.brackets_are_clean.Goals as goal

pub returns : goal.returns
returns c = brackets_are_clean c.matches_are_known.ensures
