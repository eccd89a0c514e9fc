use Rattle.ig_meaning_examples.proofs.Rows.{blocks_see_all_tokens}
use Rattle.ig_meaning_examples.proofs.blocks_see_all_tokens.Goals as goal

pub returns : goal.returns
returns c = blocks_see_all_tokens c.matches_are_known.ensures
