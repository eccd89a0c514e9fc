use Rattle.ig_ebnf_variables.proofs.Groups.{all_groups_gathered}
use Rattle.ig_ebnf_variables.proofs.laws.groups_are_gathered.Goals as goal

pub returns : goal.returns
returns c = all_groups_gathered
