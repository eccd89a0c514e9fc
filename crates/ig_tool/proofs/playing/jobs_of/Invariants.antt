use Rattle.std.proofs.Common.{map, take}
use Rattle.std.specs.List.{AllZip}
use Rattle.ig_command_jobs.specs.ParseJobs.{question_in}
use Rattle.ig_command_jobs.specs.declared.parse_job.ParseJob.{ParseJob}
use Rattle.ig_tool.specs.Playing.{Asks}
use Rattle.ig_tool.proofs.playing.jobs_of.Given as goal

-- the jobs so far ask what was loaded
abbrev pub invariant-loop-one : goal.invariant-loop-one
invariant-loop-one l = AllZip (Asks l.parsers l.budget) (take l.one-index l.loaded) (map (λ (j : ParseJob). question_in j.work) l.jobs)
