use Rattle.ig_forest_reader.proofs.Telling.{lists_told}
use Rattle.ig_forest_reader.proofs.laws.lists_of_values_are_told.Goals as goal

pub returns : goal.returns
returns c = lists_told
