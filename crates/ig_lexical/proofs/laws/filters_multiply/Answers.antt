use Rattle.ig_lexical.proofs.Multiplying.{filters_multiplied}
use Rattle.ig_lexical.proofs.laws.filters_multiply.Goals as goal

pub returns : goal.returns
returns c = filters_multiplied c.counts_by_form.ensures c.counts_grow.ensures
