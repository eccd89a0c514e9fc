use Rattle.std.proofs.Common.{arith, rules}
use Rattle.std.proofs.lemmas.Grind.{common_steps}
use Rattle.ig_grammar.proofs.lets.Lets.push.Goals as goal

pub returns-clause-ok : goal.returns-clause-ok
returns-clause-ok c = grind (arith, common_steps)

pub returns-clause-err : goal.returns-clause-err
returns-clause-err c = search rules

pub returns-clause-value_returned : goal.returns-clause-value_returned
returns-clause-value_returned c = search rules
