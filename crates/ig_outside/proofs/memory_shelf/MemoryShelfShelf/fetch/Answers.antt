use Rattle.std.proofs.Common.{rules}
use Rattle.ig_outside.proofs.memory_shelf.MemoryShelfShelf.fetch.Goals as goal

pub returns-then-contains-clause-answer : goal.returns-then-contains-clause-answer
returns-then-contains-clause-answer c = search rules

pub returns-clause-answer : goal.returns-clause-answer
returns-clause-answer c = search rules

pub returns-then-contains-clause-cause : goal.returns-then-contains-clause-cause
returns-then-contains-clause-cause c = search rules

pub returns-clause-cause : goal.returns-clause-cause
returns-clause-cause c = search rules

pub returns-then-contains-clause-before : goal.returns-then-contains-clause-before
returns-then-contains-clause-before c = search rules

pub returns-clause-before : goal.returns-clause-before
returns-clause-before c = search rules

pub returns-then-contains-clause-after : goal.returns-then-contains-clause-after
returns-then-contains-clause-after c = search rules

pub returns-clause-after : goal.returns-clause-after
returns-clause-after c = search rules

pub returns-then-contains-clause-counted : goal.returns-then-contains-clause-counted
returns-then-contains-clause-counted c = search rules

pub returns-clause-counted : goal.returns-clause-counted
returns-clause-counted c = search rules

pub returns-then-contains-clause-same : goal.returns-then-contains-clause-same
returns-then-contains-clause-same c = search rules

pub returns-clause-same : goal.returns-clause-same
returns-clause-same c = search rules

pub returns-then-contains-clause-failed : goal.returns-then-contains-clause-failed
returns-then-contains-clause-failed c = search rules

pub returns-clause-failed : goal.returns-clause-failed
returns-clause-failed c = search rules

pub returns-then-contains-clause-rise : goal.returns-then-contains-clause-rise
returns-then-contains-clause-rise c = search rules

pub returns-clause-rise : goal.returns-clause-rise
returns-clause-rise c = search rules

pub returns-then-contains-clause-failures : goal.returns-then-contains-clause-failures
returns-then-contains-clause-failures c = search rules

pub returns-clause-failures : goal.returns-clause-failures
returns-clause-failures c = search rules

pub returns-then-contains-clause-recorded : goal.returns-then-contains-clause-recorded
returns-then-contains-clause-recorded c = search rules

pub returns-clause-recorded : goal.returns-clause-recorded
returns-clause-recorded c = search rules
