use Rattle.ig_meaning_examples.proofs.Rows.{calls_of_layout_are_no_tokens}
use Rattle.ig_meaning_examples.proofs.calls_of_layout_are_no_tokens.Goals as goal

pub returns : goal.returns
returns c = calls_of_layout_are_no_tokens c.matches_are_known.ensures
