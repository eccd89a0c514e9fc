use Rattle.ig_w3c.proofs.Regularity.{read_named}
use Rattle.ig_w3c.proofs.laws.read_names_are_names.Goals as goal

pub returns : goal.returns
returns c =
    read_named c.tokens_have_forms.ensures c.reads_are_named.ensures
