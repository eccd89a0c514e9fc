use Rattle.std.proofs.Common.{arith, rules}
use Rattle.std.proofs.lemmas.Grind.{common_steps}
use Rattle.ig_outside.proofs.memory_sink.MemorySinkSink.put.Goals as goal

pub returns-then-piece-left-clause-answer : goal.returns-then-piece-left-clause-answer
returns-then-piece-left-clause-answer c = grind (arith, common_steps)

pub returns-then-piece-left-clause-cause : goal.returns-then-piece-left-clause-cause
returns-then-piece-left-clause-cause c = search rules

pub returns-then-piece-left-clause-before : goal.returns-then-piece-left-clause-before
returns-then-piece-left-clause-before c = search rules

pub returns-then-piece-left-clause-after : goal.returns-then-piece-left-clause-after
returns-then-piece-left-clause-after c = search rules

pub returns-then-piece-left-clause-counted : goal.returns-then-piece-left-clause-counted
returns-then-piece-left-clause-counted c = search rules

pub returns-then-piece-left-clause-appended : goal.returns-then-piece-left-clause-appended
returns-then-piece-left-clause-appended c = grind (arith, common_steps)

pub returns-then-piece-left-clause-ok : goal.returns-then-piece-left-clause-ok
returns-then-piece-left-clause-ok c = search rules

pub returns-then-piece-left-clause-rise : goal.returns-then-piece-left-clause-rise
returns-then-piece-left-clause-rise c = search rules

pub returns-then-piece-left-clause-room : goal.returns-then-piece-left-clause-room
returns-then-piece-left-clause-room c = search rules

pub returns-then-piece-left-clause-failures : goal.returns-then-piece-left-clause-failures
returns-then-piece-left-clause-failures c = search rules

pub returns-clause-answer : goal.returns-clause-answer
returns-clause-answer c = search rules

pub returns-clause-cause : goal.returns-clause-cause
returns-clause-cause c = search rules

pub returns-clause-before : goal.returns-clause-before
returns-clause-before c = search rules

pub returns-clause-after : goal.returns-clause-after
returns-clause-after c = search rules

pub returns-clause-counted : goal.returns-clause-counted
returns-clause-counted c = search rules

pub returns-clause-appended : goal.returns-clause-appended
returns-clause-appended c = grind (arith, common_steps)

pub returns-clause-ok : goal.returns-clause-ok
returns-clause-ok c = search rules

pub returns-clause-rise : goal.returns-clause-rise
returns-clause-rise c = search rules

pub returns-clause-room : goal.returns-clause-room
returns-clause-room c = search rules

pub returns-clause-failures : goal.returns-clause-failures
returns-clause-failures c = search rules
