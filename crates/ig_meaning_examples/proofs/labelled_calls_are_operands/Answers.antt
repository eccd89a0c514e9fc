use Rattle.ig_meaning_examples.proofs.Rows.{labelled_calls_are_operands}
use Rattle.ig_meaning_examples.proofs.labelled_calls_are_operands.Goals as goal

pub returns : goal.returns
returns c = labelled_calls_are_operands c.matches_are_known.ensures
