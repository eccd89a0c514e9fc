use Rattle.ig_pass.proofs.Multiplying.{counts_grow}
use Rattle.ig_pass.proofs.laws.counts_grow.Goals as goal

pub returns : goal.returns
returns c = counts_grow c.counts_by_form.ensures
