use Rattle.ig_meaning_examples.proofs.Rows.{declarations_are_blocks}
use Rattle.ig_meaning_examples.proofs.declarations_are_blocks.Goals as goal

pub returns : goal.returns
returns c = declarations_are_blocks c.matches_are_known.ensures
