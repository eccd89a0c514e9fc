-- The fault of a parse for that of a run, and for that of a core grammar.
use Rattle.ig_core.specs.declared.fault.CoreFault.{CoreFault}
use Rattle.ig_core.specs.declared.fault.CoreFault.TheVariants as core_fault
use Rattle.ig_item.specs.declared.run_fault.RunFault.{RunFault}
use Rattle.ig_item.specs.declared.run_fault.RunFault.TheVariants as run_fault
use Rattle.ig_parse.specs.declared.fault.ParseFault.{ParseFault}
use Rattle.ig_parse.specs.declared.fault.ParseFault.TheVariants as parse_fault

abbrev pub fault_of : RunFault → ParseFault
fault_of run_fault.Budget = parse_fault.Budget
fault_of run_fault.Memory = parse_fault.Memory

abbrev pub fault_of_core : CoreFault → ParseFault
fault_of_core core_fault.TooManyDots = parse_fault.TooManyDots
fault_of_core core_fault.Memory = parse_fault.Memory
