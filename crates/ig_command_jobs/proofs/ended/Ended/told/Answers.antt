use Rattle.std.specs.Prelude.{Err}
use Rattle.ig_command_jobs.specs.Jobs.{print}
use Rattle.ig_command_jobs.specs.Texts.{ParsesText}
use Rattle.ig_command_jobs.proofs.Endings.{told_text, told_stop}
use Rattle.ig_command_jobs.proofs.ended.Ended.told.Goals as goal

pub of-ended-requires : goal.of-ended-requires
of-ended-requires c =
    told_text c.args.asked.parser.now c.args.asked.input.now c.args.asked.budget c.requires.as_it_is c.in-Ok.text.items c.new-note.result.items
    c.new-note.ensures.items (rw c.in-Ok.is at c.requires.told)

pub of-ended-requires-in-Err-Note : goal.of-ended-requires-in-Err-Note
of-ended-requires-in-Err-Note c =
    let stopped : ParsesText c.args.asked.parser.now c.args.asked.input.now c.args.asked.budget print (Err c.in-Err-Note.field-0) =
    rw c.in-Err-Note.is at c.requires.told in
    told_stop c.args.asked.parser.now c.args.asked.input.now c.args.asked.budget c.requires.as_it_is c.in-Err-Note.status c.in-Err-Note.line.items
    c.new-out.result.items c.new-out.ensures.items (rw c.in-Err-Note.field-0-is at stopped)
