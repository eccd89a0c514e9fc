use Rattle.ig_item.proofs.Annotations.{in_turn}
use Rattle.ig_item.proofs.laws.steps_leave_in_turn.Goals as goal

pub returns : goal.returns
returns c = in_turn
