use Rattle.ig_meaning_examples.proofs.Rows.{names_are_compared}
use Rattle.ig_meaning_examples.proofs.names_are_compared.Goals as goal

pub returns : goal.returns
returns c = names_are_compared c.matches_are_known.ensures
