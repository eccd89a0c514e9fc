use Rattle.std.proofs.Common.{◌∙◌, ap}
use Rattle.ig_command.specs.Commands.{notation_with}
use Rattle.ig_command.proofs.command.notation_of.Goals as goal

pub returns : goal.returns
returns c = c.notation_or_own.ensures ∙ ap notation_with c.get_str.ensures
