use Rattle.ig_command.proofs.Sizes.{size_fits}
use Rattle.ig_command.proofs.laws.load_sizes_are_few.Goals as goal

pub returns : goal.returns
returns c = size_fits
