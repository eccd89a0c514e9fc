use Rattle.ig_notation.proofs.Forms.{read_written}
use Rattle.ig_notation.proofs.laws.read_grammars_are_written.Goals as goal

pub returns : goal.returns
returns c = read_written c.rules_have_forms_of_text.ensures
