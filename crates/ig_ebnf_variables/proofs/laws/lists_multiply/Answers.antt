use Rattle.ig_ebnf_variables.proofs.CountingGrammar.{all_lists_multiply}
use Rattle.ig_ebnf_variables.proofs.laws.lists_multiply.Goals as goal

pub returns : goal.returns
returns c = all_lists_multiply c.counts_by_form.ensures c.counts_grow.ensures
