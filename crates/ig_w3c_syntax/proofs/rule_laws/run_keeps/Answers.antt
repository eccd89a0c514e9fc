use Rattle.ig_w3c_syntax.proofs.Running.{run_keeps}
use Rattle.ig_w3c_syntax.proofs.rule_laws.run_keeps.Goals as goal

pub returns : goal.returns
returns c = run_keeps
