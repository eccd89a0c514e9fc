use Rattle.ig_parse.proofs.Parsing.{refused}
use Rattle.ig_parse.proofs.run.run_in.Goals as goal

pub returns-in-Fifo-clause-fault : goal.returns-in-Fifo-clause-fault
returns-in-Fifo-clause-fault c = refused _ _ _ c.run.result c.run.ensures.fault

pub returns-in-Lifo-clause-fault : goal.returns-in-Lifo-clause-fault
returns-in-Lifo-clause-fault c = refused _ _ _ c.run-in-Lifo.result c.run-in-Lifo.ensures.fault

pub returns-in-Lowest-clause-fault : goal.returns-in-Lowest-clause-fault
returns-in-Lowest-clause-fault c = refused _ _ _ c.run-in-Lowest.result c.run-in-Lowest.ensures.fault
