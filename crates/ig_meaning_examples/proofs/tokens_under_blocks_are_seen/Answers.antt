use Rattle.ig_meaning_examples.proofs.Rows.{tokens_under_blocks_are_seen}
use Rattle.ig_meaning_examples.proofs.tokens_under_blocks_are_seen.Goals as goal

pub returns : goal.returns
returns c = tokens_under_blocks_are_seen c.matches_are_known.ensures
