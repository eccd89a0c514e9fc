use Rattle.ig_walker.proofs.Growing.{listings_grow}
use Rattle.ig_walker.proofs.laws.listings_grow.Goals as goal

pub returns : goal.returns
returns c = listings_grow
