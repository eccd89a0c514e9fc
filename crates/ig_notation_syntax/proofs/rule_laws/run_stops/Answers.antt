use Rattle.ig_notation_syntax.proofs.Following.{run_stops}
use Rattle.ig_notation_syntax.proofs.rule_laws.run_stops.Goals as goal

pub returns : goal.returns
returns c = run_stops
