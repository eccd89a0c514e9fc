use Rattle.ig_meaning_examples.proofs.Rows.{filters_look_back}
use Rattle.ig_meaning_examples.proofs.filters_look_back.Goals as goal

pub returns : goal.returns
returns c = filters_look_back c.matches_are_known.ensures
