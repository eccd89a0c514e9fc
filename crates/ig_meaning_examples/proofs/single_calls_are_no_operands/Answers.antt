use Rattle.ig_meaning_examples.proofs.Rows.{single_calls_are_no_operands}
use Rattle.ig_meaning_examples.proofs.single_calls_are_no_operands.Goals as goal

pub returns : goal.returns
returns c = single_calls_are_no_operands c.matches_are_known.ensures
