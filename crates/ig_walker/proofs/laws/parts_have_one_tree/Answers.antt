use Rattle.ig_walker.proofs.Flatness.{parts_one}
use Rattle.ig_walker.proofs.laws.parts_have_one_tree.Goals as goal

pub returns : goal.returns
returns c = parts_one
