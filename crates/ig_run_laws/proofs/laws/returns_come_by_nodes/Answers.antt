use Rattle.ig_run_laws.proofs.FirstCalls.{returns_come_by_nodes}
use Rattle.ig_run_laws.proofs.laws.returns_come_by_nodes.Goals as goal

pub returns : goal.returns
returns c = returns_come_by_nodes
