use Rattle.ig_command.proofs.Sizes.{numbers_fit}
use Rattle.ig_command.proofs.laws.batch_numbers_are_some.Goals as goal

pub returns : goal.returns
returns c = numbers_fit
