use Rattle.std.proofs.Common.{rules}
use Rattle.ig_command_jobs.proofs.job.work_of.Goals as goal

pub returns-in-Query-clause-request : goal.returns-in-Query-clause-request
returns-in-Query-clause-request c = search rules
