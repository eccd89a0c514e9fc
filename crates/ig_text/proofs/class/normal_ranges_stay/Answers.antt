use Rattle.ig_text.proofs.Insertion.{ranges_stay}
use Rattle.ig_text.proofs.class.normal_ranges_stay.Goals as goal

pub returns : goal.returns
returns c = ranges_stay
