use Rattle.std.proofs.Common.{ap, sym}
use Rattle.ig_command_answers.specs.Faults.{fault_of_walk}
use Rattle.ig_command_answers.proofs.fault.ListFaultFromWalkFault.from.Goals as goal

pub returns-in-BadCursor : goal.returns-in-BadCursor
returns-in-BadCursor c = ap fault_of_walk (sym c.in-BadCursor.is)

pub returns-in-Memory : goal.returns-in-Memory
returns-in-Memory c = ap fault_of_walk (sym c.in-Memory.is)
