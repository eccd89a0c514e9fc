use Rattle.ig_command.proofs.SameRequests.{ask_the_same}
use Rattle.ig_command.proofs.laws.orders_ask_the_same.Goals as goal

pub returns : goal.returns
returns c = ask_the_same
