use Rattle.ig_meaning_examples.proofs.Rows.{nested_blocks_are_asked}
use Rattle.ig_meaning_examples.proofs.nested_blocks_are_asked.Goals as goal

pub returns : goal.returns
returns c = nested_blocks_are_asked c.matches_are_known.ensures
