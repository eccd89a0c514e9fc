use Rattle.ig_levels.proofs.Counting.{levels_multiply}
use Rattle.ig_levels.proofs.laws.levels_multiply.Goals as goal

pub returns : goal.returns
returns c = levels_multiply c.counts_by_form.ensures c.counts_grow.ensures
