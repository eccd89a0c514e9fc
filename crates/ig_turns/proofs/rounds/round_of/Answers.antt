use Rattle.std.proofs.Common.{◌≤◌, sym, subst, rules}
use Rattle.std.proofs.lemmas.List.Elements.{All-push}
use Rattle.ig_turns.specs.Turns.{events_of}
use Rattle.ig_turns.proofs.Totals.{each_more}
use Rattle.ig_turns.proofs.rounds.round_of.Goals as goal

pub loop-job-preserved : goal.loop-job-preserved
loop-job-preserved c = record {
  named = search (rules, All-push);
  each = λ job within. subst (λ round. c.args.events ≤ events_of job round) (sym c.in_ok-push.ensures.items)
      (each_more c.args.events c.loop-job.job c.loop-job.round.items c.loop-job.invariant.each job within);
  len = search rules;
}
