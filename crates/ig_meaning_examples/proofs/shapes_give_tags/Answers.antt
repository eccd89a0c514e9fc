use Rattle.ig_meaning_examples.proofs.Rows.{shapes_give_tags}
use Rattle.ig_meaning_examples.proofs.shapes_give_tags.Goals as goal

pub returns : goal.returns
returns c = shapes_give_tags c.matches_are_known.ensures
