use Rattle.ig_meaning_examples.proofs.Rows.{lexical_starts_have_layout}
use Rattle.ig_meaning_examples.proofs.lexical_starts_have_layout.Goals as goal

pub returns : goal.returns
returns c = lexical_starts_have_layout c.matches_are_known.ensures
