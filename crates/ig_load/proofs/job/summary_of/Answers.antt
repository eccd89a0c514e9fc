use Rattle.std.proofs.Common.{rules}
use Rattle.ig_load.proofs.job.summary_of.Goals as goal

pub returns-clause-items : goal.returns-clause-items
returns-clause-items c = search rules

pub returns-clause-nodes : goal.returns-clause-nodes
returns-clause-nodes c = search rules
