use Rattle.ig_command_endings.proofs.Noting.{note_put, note_refused}
use Rattle.ig_command_endings.proofs.writing.write_note.Goals as goal

pub returns-in-Ok : goal.returns-in-Ok
returns-in-Ok g c = note_put _ _ _ _ _ c.in-Ok.ensures.answer c.in-Ok.ensures.cause

pub returns-in-Err : goal.returns-in-Err
returns-in-Err g c = note_refused _ _ _ _ _ c.in-Err.ensures.answer c.in-Err.ensures.cause
