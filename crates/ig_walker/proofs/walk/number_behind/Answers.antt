use Rattle.std.proofs.Common.{add-one}
use Rattle.ig_walker.proofs.walk.number_behind.Goals as goal

pub returns : goal.returns
returns c = add-one c.args.choice
