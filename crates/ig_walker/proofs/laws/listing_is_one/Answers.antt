use Rattle.ig_walker.proofs.Growing.{listing_is_one}
use Rattle.ig_walker.proofs.laws.listing_is_one.Goals as goal

pub returns : goal.returns
returns c = listing_is_one
