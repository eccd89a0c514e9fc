-- The numbers of statuses, with which the program ends.
use Rattle.std.specs.Prelude.{ℕ}
use Rattle.ig_command_endings.specs.declared.status.Status.{Status}
use Rattle.ig_command_endings.specs.declared.status.Status.TheVariants as status

abbrev pub number_of : Status → ℕ
number_of status.Done = 0
number_of status.NoParse = 1
number_of status.Usage = 2
number_of status.Grammar = 3
number_of status.Input = 4
number_of status.Budget = 5
number_of status.ReadFault = 6
number_of status.WriteFault = 7
number_of status.NoMemory = 8
number_of status.BadCursor = 9
number_of status.DepthNeeded = 10
number_of status.BadList = 11
number_of status.NotSound = 12
number_of status.NotForest = 13
