use Rattle.std.proofs.Common.{rules}
use Rattle.ig_system.proofs.file_shelf.FileShelfShelf.fetch.Goals as goal

pub returns-in-Ok-clause-answer : goal.returns-in-Ok-clause-answer
returns-in-Ok-clause-answer g c = search rules

pub returns-in-Ok-clause-cause : goal.returns-in-Ok-clause-cause
returns-in-Ok-clause-cause g c = search rules

pub returns-in-Ok-clause-before : goal.returns-in-Ok-clause-before
returns-in-Ok-clause-before g c = search rules

pub returns-in-Ok-clause-after : goal.returns-in-Ok-clause-after
returns-in-Ok-clause-after g c = search rules

pub returns-in-Ok-clause-counted : goal.returns-in-Ok-clause-counted
returns-in-Ok-clause-counted g c = search rules

pub returns-in-Ok-clause-same : goal.returns-in-Ok-clause-same
returns-in-Ok-clause-same g c = search rules

pub returns-in-Err-Failed-clause-answer : goal.returns-in-Err-Failed-clause-answer
returns-in-Err-Failed-clause-answer g c = search rules

pub returns-in-Err-Failed-clause-cause : goal.returns-in-Err-Failed-clause-cause
returns-in-Err-Failed-clause-cause g c = search rules

pub returns-in-Err-Failed-clause-before : goal.returns-in-Err-Failed-clause-before
returns-in-Err-Failed-clause-before g c = search rules

pub returns-in-Err-Failed-clause-after : goal.returns-in-Err-Failed-clause-after
returns-in-Err-Failed-clause-after g c = search rules

pub returns-in-Err-Failed-clause-counted : goal.returns-in-Err-Failed-clause-counted
returns-in-Err-Failed-clause-counted g c = search rules

pub returns-in-Err-Failed-clause-same : goal.returns-in-Err-Failed-clause-same
returns-in-Err-Failed-clause-same g c = search rules

pub returns-in-Err-clause-answer : goal.returns-in-Err-clause-answer
returns-in-Err-clause-answer g c = search rules

pub returns-in-Err-clause-cause : goal.returns-in-Err-clause-cause
returns-in-Err-clause-cause g c = search rules

pub returns-in-Err-clause-before : goal.returns-in-Err-clause-before
returns-in-Err-clause-before g c = search rules

pub returns-in-Err-clause-after : goal.returns-in-Err-clause-after
returns-in-Err-clause-after g c = search rules

pub returns-in-Err-clause-counted : goal.returns-in-Err-clause-counted
returns-in-Err-clause-counted g c = search rules

pub returns-in-Err-clause-same : goal.returns-in-Err-clause-same
returns-in-Err-clause-same g c = search rules

pub returns-in-Ok-clause-recorded : goal.returns-in-Ok-clause-recorded
returns-in-Ok-clause-recorded g c = search rules

pub returns-in-Err-Failed-clause-recorded : goal.returns-in-Err-Failed-clause-recorded
returns-in-Err-Failed-clause-recorded g c = search rules

pub returns-in-Err-clause-recorded : goal.returns-in-Err-clause-recorded
returns-in-Err-clause-recorded g c = search rules
