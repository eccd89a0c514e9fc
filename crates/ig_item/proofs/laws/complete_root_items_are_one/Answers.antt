use Rattle.ig_item.proofs.Roots.{complete_roots_are_one}
use Rattle.ig_item.proofs.laws.complete_root_items_are_one.Goals as goal

pub returns : goal.returns
returns c = complete_roots_are_one c.environments_fit.ensures
