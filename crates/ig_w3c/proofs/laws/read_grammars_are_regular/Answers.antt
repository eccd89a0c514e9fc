use Rattle.ig_w3c.proofs.Regularity.{read_regular}
use Rattle.ig_w3c.proofs.laws.read_grammars_are_regular.Goals as goal

pub returns : goal.returns
returns c =
    read_regular c.tokens_are_few.ensures c.tokens_have_forms.ensures c.declarations_read.ensures c.reads_are_regular.ensures
    c.reads_are_counted.ensures
