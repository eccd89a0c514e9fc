use Rattle.ig_run_moves.proofs.Growing.{named_of_tables}
use Rattle.ig_run_moves.proofs.laws.named_items_are_of_tables.Goals as goal

pub returns : goal.returns
returns c = named_of_tables
