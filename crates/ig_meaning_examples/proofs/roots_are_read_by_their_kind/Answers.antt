use Rattle.ig_meaning_examples.proofs.Rows.{roots_are_read_by_their_kind}
use Rattle.ig_meaning_examples.proofs.roots_are_read_by_their_kind.Goals as goal

pub returns : goal.returns
returns c = roots_are_read_by_their_kind c.matches_are_known.ensures
