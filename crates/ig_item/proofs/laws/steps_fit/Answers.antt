use Rattle.ig_item.proofs.Fitting.{each_fits}
use Rattle.ig_item.proofs.laws.steps_fit.Goals as goal

pub returns : goal.returns
returns c = each_fits
