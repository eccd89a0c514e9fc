use Rattle.ig_command_answers.proofs.Telling.{cyclic_told}
use Rattle.ig_command_answers.proofs.answer.tell_cyclic.Goals as goal

pub returns : goal.returns
returns c =
    cyclic_told c.args.forest.now c.in_ok-heights.heights c.is_cyclic.result c.show_cyclic.result c.in_ok-heights.ensures
    c.is_cyclic.ensures c.show_cyclic.ensures
