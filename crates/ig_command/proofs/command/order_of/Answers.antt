use Rattle.std.proofs.Common.{◌∙◌, ap}
use Rattle.ig_command.specs.Commands.{order_with}
use Rattle.ig_command.proofs.command.order_of.Goals as goal

pub returns : goal.returns
returns c = c.order_or_fifo.ensures ∙ ap order_with c.get_str.ensures
