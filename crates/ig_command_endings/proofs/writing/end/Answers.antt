use Rattle.std.proofs.Common.{refl}
use Rattle.ig_command_endings.proofs.writing.end.Goals as goal

pub returns-in-Ok : goal.returns-in-Ok
returns-in-Ok g c = rw c.in-Ok.is (rw c.deref.ensures.value at c.write_text.ensures)

pub returns-in-Err-Note : goal.returns-in-Err-Note
returns-in-Err-Note g c =
    rw (c.in-Err-Note.is, c.in-Err-Note.field-0-is)
    (record { told = refl; calm = refl }, rw c.deref-in-Err-Note.ensures.value at c.write_note.ensures)

pub returns-in-Err-Memory : goal.returns-in-Err-Memory
returns-in-Err-Memory g c =
    rw (c.in-Err-Memory.is, c.in-Err-Memory.field-0-is) (record { told = refl; calm = refl }, c.give_up.ensures)
