use Rattle.ig_notation.proofs.Regularity.{read_named}
use Rattle.ig_notation.proofs.laws.read_names_are_names.Goals as goal

pub returns : goal.returns
returns c = read_named c.reads_are_named.ensures
