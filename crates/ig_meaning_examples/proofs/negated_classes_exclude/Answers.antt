use Rattle.ig_meaning_examples.proofs.Rows.{negated_classes_exclude}
use Rattle.ig_meaning_examples.proofs.negated_classes_exclude.Goals as goal

pub returns : goal.returns
returns c = negated_classes_exclude c.matches_are_known.ensures
