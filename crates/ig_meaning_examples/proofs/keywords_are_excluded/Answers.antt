use Rattle.ig_meaning_examples.proofs.Rows.{keywords_are_excluded}
use Rattle.ig_meaning_examples.proofs.keywords_are_excluded.Goals as goal

pub returns : goal.returns
returns c = keywords_are_excluded c.matches_are_known.ensures
