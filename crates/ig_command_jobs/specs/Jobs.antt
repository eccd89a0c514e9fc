-- What is done with a grammar, or with a grammar and an input.
use Rattle.std.specs.Prelude.{ℕ, List, Option, Some, None}
use Rattle.ig_queue.specs.declared.order.Order.{Order}
use Rattle.ig_command.specs.Commands.{Request, check, show, core, forest, trees, query, load, batch, verify, analyse, Listing, Question, Source, order_of_list, stored_source, stored_listing, stored_question}
use Rattle.ig_command_jobs.specs.declared.job.Job.{Job as StoredJob}
use Rattle.ig_command_jobs.specs.declared.job.Job.TheVariants as stored
use Rattle.ig_command_jobs.specs.declared.job.Task.{Task}
use Rattle.ig_command_jobs.specs.declared.job.Task.TheVariants as task
use Rattle.ig_command_jobs.specs.declared.job.Work.{Work}
use Rattle.ig_command_jobs.specs.declared.job.Work.TheVariants as work

-- the request for a task, with the file of the grammar
abbrev pub task_request : Task → Source → Request
task_request task.Check grammar = check grammar
task_request task.Show grammar = show grammar
task_request task.Core grammar = core grammar
task_request task.Analyse grammar = analyse grammar

pub data Job : Type 0 where
  -- the forest is printed
  print : Job
  -- its trees are listed
  list : (listing : Listing) → Job
  -- a question is answered
  ask : (question : Question) → Job

-- the request for it, with the file of the grammar, the name of the input and the budget
abbrev pub request_for : Job → Source → List ℕ → ℕ → Request
request_for print grammar input budget = forest grammar input budget
request_for (list listing) grammar input budget = trees grammar input budget listing
request_for (ask question) grammar input budget = query grammar input budget question

-- what a stored job does
abbrev pub stored_job : StoredJob → Job
stored_job stored.Print = print
stored_job (stored.List listing) = list (stored_listing listing)
stored_job (stored.Ask question) = ask (stored_question question)

-- the request that asks for the work
abbrev pub work_request : Work → Request
work_request (work.OnGrammar grammar task) = task_request task (stored_source grammar)
work_request (work.OnInput files budget order job) = request_for (stored_job job) (stored_source files.grammar) files.input.now budget
work_request (work.OnForest files text) = verify (stored_source files.grammar) files.input.now text.now
work_request (work.OfLoad size number budget order) = load size number budget
work_request (work.OnList file budget order turn) = batch file.now budget turn

-- the order in which it runs, where it does
abbrev pub work_order : Work → Option Order
work_order (work.OnInput files budget order job) = Some order
work_order (work.OfLoad size number budget order) = Some order
work_order (work.OnList file budget order turn) = Some (order_of_list order)
work_order w = None
