use Rattle.std.proofs.Common.{rules}
use Rattle.ig_system.proofs.stream_sink.StreamSinkSink.put.Goals as goal

pub returns-in-Ok-clause-answer : goal.returns-in-Ok-clause-answer
returns-in-Ok-clause-answer g c = search rules

pub returns-in-Ok-clause-cause : goal.returns-in-Ok-clause-cause
returns-in-Ok-clause-cause g c = search rules

pub returns-in-Ok-clause-before : goal.returns-in-Ok-clause-before
returns-in-Ok-clause-before g c = search rules

pub returns-in-Ok-clause-after : goal.returns-in-Ok-clause-after
returns-in-Ok-clause-after g c = search rules

pub returns-in-Err-Failed-clause-answer : goal.returns-in-Err-Failed-clause-answer
returns-in-Err-Failed-clause-answer g c = search rules

pub returns-in-Err-Failed-clause-cause : goal.returns-in-Err-Failed-clause-cause
returns-in-Err-Failed-clause-cause g c = search rules

pub returns-in-Err-Failed-clause-before : goal.returns-in-Err-Failed-clause-before
returns-in-Err-Failed-clause-before g c = search rules

pub returns-in-Err-Failed-clause-after : goal.returns-in-Err-Failed-clause-after
returns-in-Err-Failed-clause-after g c = search rules
