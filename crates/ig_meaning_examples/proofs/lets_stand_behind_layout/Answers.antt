use Rattle.ig_meaning_examples.proofs.Rows.{lets_stand_behind_layout}
use Rattle.ig_meaning_examples.proofs.lets_stand_behind_layout.Goals as goal

pub returns : goal.returns
returns c = lets_stand_behind_layout c.matches_are_known.ensures
