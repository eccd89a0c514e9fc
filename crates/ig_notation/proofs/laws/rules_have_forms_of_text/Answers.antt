use Rattle.ig_notation.proofs.Forms.{rules_written}
use Rattle.ig_notation.proofs.laws.rules_have_forms_of_text.Goals as goal

pub returns : goal.returns
returns c = rules_written c.reads_are_written.ensures
