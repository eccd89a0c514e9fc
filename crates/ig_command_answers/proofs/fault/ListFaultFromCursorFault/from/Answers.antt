use Rattle.std.proofs.Common.{ap, sym}
use Rattle.ig_command_answers.specs.Faults.{fault_of_cursor}
use Rattle.ig_command_answers.proofs.fault.ListFaultFromCursorFault.from.Goals as goal

pub returns-in-NotACursor : goal.returns-in-NotACursor
returns-in-NotACursor c = ap fault_of_cursor (sym c.in-NotACursor.is)

pub returns-in-Memory : goal.returns-in-Memory
returns-in-Memory c = ap fault_of_cursor (sym c.in-Memory.is)
