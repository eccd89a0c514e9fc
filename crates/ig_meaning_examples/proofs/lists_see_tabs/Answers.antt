use Rattle.ig_meaning_examples.proofs.Rows.{lists_see_tabs}
use Rattle.ig_meaning_examples.proofs.lists_see_tabs.Goals as goal

pub returns : goal.returns
returns c = lists_see_tabs c.matches_are_known.ensures
