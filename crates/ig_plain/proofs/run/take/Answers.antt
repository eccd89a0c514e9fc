use Rattle.std.proofs.Common.{sym, subst, ap, ◌∙◌}
use Rattle.ig_text.proofs.Lists.{contains_from_at}
use Rattle.ig_run_moves.specs.Rules.{step_at}
use Rattle.ig_plain.specs.Found.{means}
use Rattle.ig_plain.specs.Run.{IsRun}
use Rattle.ig_plain.specs.Trail.{HasTrail}
use Rattle.ig_plain.proofs.Onward.{trail_next}
use Rattle.ig_plain.proofs.Alone.{next_reachable, taken_next}
use Rattle.ig_plain.proofs.run.take.Goals as goal

pub nonterminal_of-nonterminal-requires : goal.nonterminal_of-nonterminal-requires
nonterminal_of-nonterminal-requires c =
    c.args.run.now.found.named.here c.item_at-item.result
    (contains_from_at c.args.run.now.found.here.items c.args.place c.item_at-item.result c.item_at-item.ensures)

pub take_step-requires-clause-taking : goal.take_step-requires-clause-taking
take_step-requires-clause-taking c =
    record {
      number = c.args.place;
      run = subst (λ z. IsRun c.args.context.now.core.now c.args.context.now.text.now c.args.context.now.budget z c.args.place c.args.run.now.found c.args.run.now.waiting)
          (sym (c.requires.run.taking.stored.at c.item_at-item.result
          (contains_from_at c.args.run.now.found.here.items c.args.place c.item_at-item.result c.item_at-item.ensures))) c.requires.run;
      at = c.item_at-item.ensures;
    }

pub take_step-requires-clause-next : goal.take_step-requires-clause-next
take_step-requires-clause-next c =
    record {
      place = c.args.place;
      at = c.item_at-item.ensures;
      numbered = c.in_ok-number.ensures.number;
      trail = subst (λ z. HasTrail c.args.context.now.core.now c.args.context.now.text.now z c.args.place c.args.run.now.found c.args.run.now.waiting c.args.run.now.trail)
          (sym (c.requires.run.taking.stored.at c.item_at-item.result
          (contains_from_at c.args.run.now.found.here.items c.args.place c.item_at-item.result c.item_at-item.ensures))) c.requires.trail;
    }

pub take_step-requires-clause-there : goal.take_step-requires-clause-there
take_step-requires-clause-there c = sym c.in-Some.ensures

pub take_complete-requires-clause-taking : goal.take_complete-requires-clause-taking
take_complete-requires-clause-taking c =
    record {
      number = c.args.place;
      run = subst (λ z. IsRun c.args.context.now.core.now c.args.context.now.text.now c.args.context.now.budget z c.args.place c.args.run.now.found c.args.run.now.waiting)
          (sym (c.requires.run.taking.stored.at c.item_at-item.result
          (contains_from_at c.args.run.now.found.here.items c.args.place c.item_at-item.result c.item_at-item.ensures))) c.requires.run;
      at = c.item_at-item.ensures;
    }

pub take_complete-requires-clause-next : goal.take_complete-requires-clause-next
take_complete-requires-clause-next c =
    record {
      place = c.args.place;
      at = c.item_at-item.ensures;
      numbered = c.in_ok-number.ensures.number;
      trail = subst (λ z. HasTrail c.args.context.now.core.now c.args.context.now.text.now z c.args.place c.args.run.now.found c.args.run.now.waiting c.args.run.now.trail)
          (sym (c.requires.run.taking.stored.at c.item_at-item.result
          (contains_from_at c.args.run.now.found.here.items c.args.place c.item_at-item.result c.item_at-item.ensures))) c.requires.trail;
    }

pub take_complete-requires-clause-complete : goal.take_complete-requires-clause-complete
take_complete-requires-clause-complete c =
    let item = c.item_at-item.result in
    (c.ends_are_complete.ensures c.args.context.now.core.now c.args.context.now.text.now (means c.args.run.now.found item) c.keep_well_kinded.ensures
    (next_reachable c.args.context.now.core.now c.args.context.now.text.now c.args.context.now.budget c.args.position c.args.place c.args.run.now.found
    c.args.run.now.waiting item c.requires.run c.item_at-item.ensures)).1
    (ap (λ n. step_at c.args.context.now.core.now n item.alternative item.dot) (sym c.nonterminal_of-nonterminal.ensures) ∙ sym c.in-None.ensures)

pub returns-in-Some-clause-run : goal.returns-in-Some-clause-run
returns-in-Some-clause-run c =
    taken_next c.args.context.now.core.now c.args.context.now.text.now c.args.context.now.budget c.args.position c.item_at-item.result.position c.args.place _ _ c.take_step.result
    (c.requires.run.taking.stored.at c.item_at-item.result (contains_from_at c.args.run.now.found.here.items c.args.place c.item_at-item.result
    c.item_at-item.ensures)) (c.take_step.ensures.takes c.args.place c.item_at-item.ensures)

pub returns-in-Some-clause-trail : goal.returns-in-Some-clause-trail
returns-in-Some-clause-trail c =
    trail_next c.args.context.now.core.now c.args.context.now.text.now c.args.position c.item_at-item.result.position c.args.place _ _ _ c.take_step.result
    (c.requires.run.taking.stored.at c.item_at-item.result (contains_from_at c.args.run.now.found.here.items c.args.place c.item_at-item.result
    c.item_at-item.ensures)) (c.take_step.ensures.trail c.args.place c.item_at-item.ensures)

pub returns-in-None-clause-run : goal.returns-in-None-clause-run
returns-in-None-clause-run c =
    taken_next c.args.context.now.core.now c.args.context.now.text.now c.args.context.now.budget c.args.position c.item_at-item.result.position c.args.place _ _ c.take_complete.result
    (c.requires.run.taking.stored.at c.item_at-item.result (contains_from_at c.args.run.now.found.here.items c.args.place c.item_at-item.result
    c.item_at-item.ensures)) (c.take_complete.ensures.takes c.args.place c.item_at-item.ensures)

pub returns-in-None-clause-trail : goal.returns-in-None-clause-trail
returns-in-None-clause-trail c =
    trail_next c.args.context.now.core.now c.args.context.now.text.now c.args.position c.item_at-item.result.position c.args.place _ _ _ c.take_complete.result
    (c.requires.run.taking.stored.at c.item_at-item.result (contains_from_at c.args.run.now.found.here.items c.args.place c.item_at-item.result
    c.item_at-item.ensures)) (c.take_complete.ensures.trail c.args.place c.item_at-item.ensures)
