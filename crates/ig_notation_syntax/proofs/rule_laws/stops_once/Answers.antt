use Rattle.ig_notation_syntax.proofs.Following.{stops_once}
use Rattle.ig_notation_syntax.proofs.rule_laws.stops_once.Goals as goal

pub returns : goal.returns
returns c = stops_once
