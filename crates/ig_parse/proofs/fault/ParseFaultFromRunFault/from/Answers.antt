use Rattle.std.proofs.Common.{ap, sym}
use Rattle.ig_parse.specs.Faults.{fault_of}
use Rattle.ig_parse.proofs.fault.ParseFaultFromRunFault.from.Goals as goal

pub returns-in-Budget : goal.returns-in-Budget
returns-in-Budget c = ap fault_of (sym c.in-Budget.is)

pub returns-in-Memory : goal.returns-in-Memory
returns-in-Memory c = ap fault_of (sym c.in-Memory.is)
