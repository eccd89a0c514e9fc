use Rattle.ig_meaning_examples.proofs.Rows.{empty_pairs_are_permitted}
use Rattle.ig_meaning_examples.proofs.empty_pairs_are_permitted.Goals as goal

pub returns : goal.returns
returns c = empty_pairs_are_permitted c.matches_are_known.ensures
