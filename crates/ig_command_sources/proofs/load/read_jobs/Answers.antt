use Rattle.ig_command_sources.proofs.Loading.{list_refused}
use Rattle.ig_command_sources.proofs.load.read_jobs.Goals as goal

pub returns-in-Ok-clause-reads : goal.returns-in-Ok-clause-reads
returns-in-Ok-clause-reads c = record { few = c.requires; reading_is = c.in-Ok.ensures.reads }

pub returns-in-Err-Wrong-clause-reads : goal.returns-in-Err-Wrong-clause-reads
returns-in-Err-Wrong-clause-reads c =
    list_refused c.args.bytes.now c.in-Err-Wrong.line c.bad_list.result c.requires
    (rw c.in-Err-Wrong.field-0-is at c.in-Err-Wrong.ensures.reads) c.bad_list.ensures
