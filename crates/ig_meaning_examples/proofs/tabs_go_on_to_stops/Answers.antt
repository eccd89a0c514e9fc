use Rattle.ig_meaning_examples.proofs.Rows.{tabs_go_on_to_stops}
use Rattle.ig_meaning_examples.proofs.tabs_go_on_to_stops.Goals as goal

pub returns : goal.returns
returns c = tabs_go_on_to_stops c.matches_are_known.ensures
