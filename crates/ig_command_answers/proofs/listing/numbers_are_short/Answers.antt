use Rattle.std.proofs.Common.{arith}
use Rattle.ig_command_answers.proofs.Starting.{all_short}
use Rattle.ig_command_answers.proofs.listing.numbers_are_short.Goals as goal

pub returns : goal.returns
returns c = all_short c.args.numbers.now (λ k. omega (arith, c.type_inv.numbers k))
