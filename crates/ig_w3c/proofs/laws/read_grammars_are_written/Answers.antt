use Rattle.ig_w3c.proofs.Regularity.{read_written}
use Rattle.ig_w3c.proofs.laws.read_grammars_are_written.Goals as goal

pub returns : goal.returns
returns c =
    read_written c.rules_have_forms_of_text.ensures
