use Rattle.ig_blocks_parts.proofs.Choices.{all_are_gathered}
use Rattle.ig_blocks_parts.proofs.laws.all_are_gathered.Goals as goal

pub returns : goal.returns
returns c = all_are_gathered
