use Rattle.ig_ebnf_variables.proofs.Counting.{all_lists_are_few}
use Rattle.ig_ebnf_variables.proofs.laws.lists_are_few.Goals as goal

pub returns : goal.returns
returns c = all_lists_are_few c.counts_by_form.ensures
