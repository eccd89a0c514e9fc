use Rattle.std.proofs.Common.{rules}
use Rattle.ig_outside.proofs.memory_shelf.copy_of.Goals as goal

pub returns-in_default-clause-answer : goal.returns-in_default-clause-answer
returns-in_default-clause-answer c = search rules

pub returns-in_default-clause-no_failure : goal.returns-in_default-clause-no_failure
returns-in_default-clause-no_failure c = search rules

pub returns-then-len-most-clause-answer : goal.returns-then-len-most-clause-answer
returns-then-len-most-clause-answer c = search rules

pub returns-then-len-most-clause-no_failure : goal.returns-then-len-most-clause-no_failure
returns-then-len-most-clause-no_failure c = search rules

pub returns-clause-answer : goal.returns-clause-answer
returns-clause-answer c = search rules

pub returns-clause-no_failure : goal.returns-clause-no_failure
returns-clause-no_failure c = search rules

pub returns-in_err-copy-clause-answer : goal.returns-in_err-copy-clause-answer
returns-in_err-copy-clause-answer c = search rules

pub returns-in_err-copy-clause-no_failure : goal.returns-in_err-copy-clause-no_failure
returns-in_err-copy-clause-no_failure c = search rules
