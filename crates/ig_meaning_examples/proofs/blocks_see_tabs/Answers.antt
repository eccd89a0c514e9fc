use Rattle.ig_meaning_examples.proofs.Rows.{blocks_see_tabs}
use Rattle.ig_meaning_examples.proofs.blocks_see_tabs.Goals as goal

pub returns : goal.returns
returns c = blocks_see_tabs c.matches_are_known.ensures
