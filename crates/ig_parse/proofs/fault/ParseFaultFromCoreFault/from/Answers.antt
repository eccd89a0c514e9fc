use Rattle.std.proofs.Common.{ap, sym}
use Rattle.ig_parse.specs.Faults.{fault_of_core}
use Rattle.ig_parse.proofs.fault.ParseFaultFromCoreFault.from.Goals as goal

pub returns-in-TooManyDots : goal.returns-in-TooManyDots
returns-in-TooManyDots c = ap fault_of_core (sym c.in-TooManyDots.is)

pub returns-in-Memory : goal.returns-in-Memory
returns-in-Memory c = ap fault_of_core (sym c.in-Memory.is)
