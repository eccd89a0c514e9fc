use Rattle.ig_item.proofs.FourItems.{four_items_are_reachable}
use Rattle.ig_item.proofs.laws.four_items_are_reachable.Goals as goal

pub returns : goal.returns
returns c = four_items_are_reachable
