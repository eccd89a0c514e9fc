use Rattle.ig_meaning_examples.proofs.Rows.{sequences_stand_in_place}
use Rattle.ig_meaning_examples.proofs.sequences_stand_in_place.Goals as goal

pub returns : goal.returns
returns c = sequences_stand_in_place c.matches_are_known.ensures
