use Rattle.std.proofs.Common.{refl}
use Rattle.ig_forest_tables.proofs.node_rows.range_of.Goals as goal

pub returns : goal.returns
returns c = refl
