use Rattle.ig_meaning_examples.proofs.Rows.{options_have_layout}
use Rattle.ig_meaning_examples.proofs.options_have_layout.Goals as goal

pub returns : goal.returns
returns c = options_have_layout c.matches_are_known.ensures
