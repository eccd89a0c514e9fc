use Rattle.ig_grammar.proofs.laws.counts_by_form.Goals as goal
use Rattle.ig_grammar.proofs.Sums.{counts}

pub returns : goal.returns
returns c = counts
