use Rattle.ig_meaning_examples.proofs.Rows.{letters_are_counted}
use Rattle.ig_meaning_examples.proofs.letters_are_counted.Goals as goal

pub returns : goal.returns
returns c = letters_are_counted c.matches_are_known.ensures
