use Rattle.std.proofs.Common.{◌∙◌, All, ap, arith, length, map, subst, sym}
use Rattle.ig_core.specs.Lowered.{CoreOf}
use Rattle.ig_command_jobs.specs.ParseJobs.{question_in}
use Rattle.ig_command_jobs.specs.declared.parse_job.ParseJob.{ParseJob}
use Rattle.ig_tool.specs.Loading.{grammars_of}
use Rattle.ig_tool.specs.Playing.{IsParsable}
use Rattle.ig_tool.proofs.Kept.{all_cores, all_parsable}
use Rattle.ig_tool.proofs.Played.{as_many, plays_all}
use Rattle.ig_tool.proofs.playing.play.Goals as goal

pub parsers_of-requires-clause-parsable : goal.parsers_of-requires-clause-parsable
parsers_of-requires-clause-parsable c =
    subst (All IsParsable) (sym (c.as_slice.ensures.value ∙ c.in_ok-grammars.ensures.grammars))
    (all_parsable c.args.batch.kept.items c.requires.kept)

pub parsers_of-requires-clause-cores : goal.parsers_of-requires-clause-cores
parsers_of-requires-clause-cores c =
    c.in_ok-grammars.ensures.cores ∙ all_cores c.args.batch.kept.items c.requires.kept ∙
    ap (map CoreOf) (sym (c.as_slice.ensures.value ∙ c.in_ok-grammars.ensures.grammars))

pub jobs_of-requires-clause-parsable : goal.jobs_of-requires-clause-parsable
jobs_of-requires-clause-parsable c =
    subst (All IsParsable)
    (sym (c.as_slice-3.ensures.value ∙ c.in_ok-parsers.ensures ∙ c.as_slice.ensures.value ∙ c.in_ok-grammars.ensures.grammars))
    (all_parsable c.args.batch.kept.items c.requires.kept)

pub play_jobs-requires-clause-count : goal.play_jobs-requires-clause-count
play_jobs-requires-clause-count c =
    let many =
    as_many (λ (j : ParseJob). question_in j.work) c.as_slice-3.result.now c.args.budget c.as_slice-2.result.now
    c.in_ok-queued.queued c.in_ok-queued.ensures in
    let long = ap length c.as_slice-2.ensures.value in
    let same = c.args.batch.jobs.ok.0 in
    let count = c.len.ensures in
    omega (arith, many, long, same, count)

pub returns : goal.returns
returns c =
    plays_all c.play_jobs.result c.as_slice-3.result.now (grammars_of c.args.batch.kept.items) c.args.budget
    c.as_slice-2.result.now c.args.batch.jobs.items (map (λ (j : ParseJob). question_in j.work) c.in_ok-queued.queued)
    (c.as_slice-3.ensures.value ∙ c.in_ok-parsers.ensures ∙ c.as_slice.ensures.value ∙ c.in_ok-grammars.ensures.grammars)
    c.as_slice-2.ensures.value c.in_ok-queued.ensures c.play_jobs.ensures
