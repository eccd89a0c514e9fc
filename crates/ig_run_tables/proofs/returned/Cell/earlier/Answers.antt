use Rattle.std.proofs.Common.{refl}
use Rattle.ig_run_tables.proofs.returned.Cell.earlier.Goals as goal

pub returns : goal.returns
returns c = refl
