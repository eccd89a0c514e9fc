use Rattle.ig_meaning_examples.proofs.Rows.{groups_keep_their_bindings}
use Rattle.ig_meaning_examples.proofs.groups_keep_their_bindings.Goals as goal

pub returns : goal.returns
returns c = groups_keep_their_bindings c.matches_are_known.ensures
