use Rattle.ig_notation_syntax.proofs.Following.{read_runs}
use Rattle.ig_notation_syntax.proofs.rule_laws.read_runs.Goals as goal

pub returns : goal.returns
returns c = read_runs
