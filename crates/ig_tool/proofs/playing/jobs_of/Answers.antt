use Rattle.ig_command_jobs.specs.ParseJobs.{question_in}
use Rattle.ig_command_jobs.specs.declared.parse_job.ParseJob.{ParseJob}
use Rattle.ig_tool.proofs.Played.{jobs_more}
use Rattle.ig_tool.proofs.playing.jobs_of.Goals as goal

pub loop-one-preserved : goal.loop-one-preserved
loop-one-preserved c =
    jobs_more (λ (j : ParseJob). question_in j.work) c.args.parsers.now c.args.budget c.args.loaded.now c.loop-one.one-index
    c.one-item.result c.loop-one.jobs c.add.new.jobs c.in_ok-job.job c.loop-one-test.true c.one-item.is c.in_ok-add.ensures
    c.loop-one.invariant c.in_ok-job.ensures
