use Rattle.std.proofs.Common.{rules}
use Rattle.ig_command.proofs.command.question_named.Goals as goal

pub returns-in-None : goal.returns-in-None
returns-in-None c = search rules
