use Rattle.ig_parse.proofs.Queries.{cyclic_is_without_highest}
use Rattle.ig_parse.proofs.laws.cyclic_is_without_highest.Goals as goal

pub returns : goal.returns
returns c = cyclic_is_without_highest
