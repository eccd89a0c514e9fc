-- A job, by what is done for it.
use Rattle.std.specs.Prelude.{ℕ}
use Rattle.ig_command_jobs.specs.Question.{Question}
use Rattle.ig_command_jobs.specs.declared.parse_job.Work.{Work}
use Rattle.ig_command_jobs.specs.declared.parse_job.Work.TheVariants as work

-- what it is for
abbrev pub question_in : Work → Question
question_in (work.Ended question) = question
question_in (work.Parses underway) = underway.question

-- how many events it took
abbrev pub taken_by : Work → ℕ
taken_by (work.Ended question) = 0
taken_by (work.Parses underway) = underway.taken

-- a number that falls with each event
abbrev pub left_of : Work → ℕ
left_of (work.Ended question) = 0
left_of (work.Parses underway) = underway.left
