use Rattle.ig_item.proofs.FourWays.{four_items_have_ways}
use Rattle.ig_item.proofs.laws.four_items_have_ways.Goals as goal

pub returns : goal.returns
returns c = four_items_have_ways
