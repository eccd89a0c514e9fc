use Rattle.ig_lexical.proofs.Multiplying.{layout_multiplied}
use Rattle.ig_lexical.proofs.laws.layout_multiplies.Goals as goal

pub returns : goal.returns
returns c = layout_multiplied c.counts_by_form.ensures c.counts_grow.ensures
