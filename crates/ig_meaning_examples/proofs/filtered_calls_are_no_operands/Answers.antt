use Rattle.ig_meaning_examples.proofs.Rows.{filtered_calls_are_no_operands}
use Rattle.ig_meaning_examples.proofs.filtered_calls_are_no_operands.Goals as goal

pub returns : goal.returns
returns c = filtered_calls_are_no_operands c.matches_are_known.ensures
