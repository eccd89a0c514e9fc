use Rattle.ig_w3c_syntax.proofs.Running.{run_stops}
use Rattle.ig_w3c_syntax.proofs.rule_laws.run_stops.Goals as goal

pub returns : goal.returns
returns c = run_stops c.kept_rules_read.ensures
