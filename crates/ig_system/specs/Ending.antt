-- How the program may end.
use Rattle.std.specs.declared.io.ErrorKind.{ErrorKind}
use Rattle.std.specs.declared.io.ErrorKind.TheVariants.{OutOfMemory}
use Rattle.ig_command_endings.specs.declared.status.Status.{Status}
use Rattle.ig_command_endings.specs.declared.status.Status.TheVariants.{Usage, NoMemory}

-- the status where the system's answer to the question for the words is an error of this kind
abbrev pub unread_status : ErrorKind → Status
unread_status OutOfMemory = NoMemory
unread_status _ = Usage
