use Rattle.ig_forest.proofs.Uniqueness.{no_key_twice}
use Rattle.ig_forest.proofs.laws.no_key_stands_twice.Goals as goal

pub returns : goal.returns
returns c = no_key_twice
