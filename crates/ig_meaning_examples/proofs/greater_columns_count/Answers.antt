use Rattle.ig_meaning_examples.proofs.Rows.{greater_columns_count}
use Rattle.ig_meaning_examples.proofs.greater_columns_count.Goals as goal

pub returns : goal.returns
returns c = greater_columns_count c.matches_are_known.ensures
