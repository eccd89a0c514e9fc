use Rattle.std.proofs.Common.{rules, arith, ◌<◌, length}
use Rattle.ig_turns.proofs.Totals.{none_left, is_finished_at}
use Rattle.ig_turns.proofs.rounds.are_finished.Goals as goal

pub returns-then-not-finished : goal.returns-then-not-finished
returns-then-not-finished g c =
    let count = c.requires in
    let before = c.loop-job-test.true in
    let within : c.loop-job.job < length c.args.turns.now = omega (arith, count, before) in (
      λ e. absurd (cc),
      λ e. let there = c.finished.ensures.1 (is_finished_at g.J.Job.left c.args.turns.now c.loop-job.job e within) in search rules,
    )

pub returns : goal.returns
returns g c =
    let count = c.requires in
    let past = c.loop-job-test.false in (
      λ _. none_left g.J.Job.left c.args.turns.now (λ k within. c.loop-job.invariant k (omega (arith, count, past, within))),
      λ _. search rules,
    )
