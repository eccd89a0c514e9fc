use Rattle.std.proofs.Common.{◌∙◌, ap}
use Rattle.ig_command.specs.Commands.{number_or}
use Rattle.ig_command.proofs.command.turn_of.Goals as goal

pub returns : goal.returns
returns c = c.small_or.ensures ∙ ap (number_or _ _ _) c.get_str.ensures
