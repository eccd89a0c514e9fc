use Rattle.std.proofs.Common.{[], ◌∷◌, ◌++◌, refl, ap, ◌∙◌, Some}
use Rattle.std.proofs.lemmas.Option.{slice_get_within}
use Rattle.std.proofs.lemmas.Result.{on_ok_weaker}
use Rattle.ig_item.specs.Tables.{instance_by}
use Rattle.ig_run_moves.specs.Waiting.{not_called}
use Rattle.ig_plain.proofs.Starts.{starts, alone}
use Rattle.ig_plain.proofs.Starting.{none_unfound, starts_on}
use Rattle.ig_plain.proofs.Naming.{entered, wider}
use Rattle.ig_plain.proofs.saturation.start.Goals as goal

pub invariant_of-run : goal.invariant_of-run
invariant_of-run c = record { named = wider c.args.run.now.found.named _ c.enter_values.ensures.extends }

pub invariant_of-run-2 : goal.invariant_of-run-2
invariant_of-run-2 c =
    record {
      named = entered (wider c.args.run.now.found.named _ c.enter_values.ensures.extends) _ _ c.enter.result
          (slice_get_within c.enter_values.new.envs.keys c.in_ok-env.env _ c.in_ok-env.ensures.enters.there) c.enter.ensures.enters c.enter.ensures.refused;
    }

pub add_firsts-requires-clause-there : goal.add_firsts-requires-clause-there
add_firsts-requires-clause-there c = c.in_ok-root.ensures.enters.there

pub add_firsts-requires-clause-new : goal.add_firsts-requires-clause-new
add_firsts-requires-clause-new c =
    λ x m. none_unfound _ _ _ c.requires.empty.done c.requires.empty.here x

pub returns-clause-run : goal.returns-clause-run
returns-clause-run c =
    λ text.
    starts c.args.context.now.core.now text c.reachable_is_closed.ensures c.keep_well_kinded.ensures c.args.context.now.budget c.args.run.now.found c.args.run.now.waiting
    c.requires.empty _ c.in_ok-env.env c.in_ok-env.ensures.once (c.in_ok-env.ensures.enters.there ∙ ap Some c.new.ensures) refl refl refl
    (alone c.args.run.now.found.keys _ _ c.in_ok-root.root c.in_ok-root.field-0-1 c.requires.empty.keys c.in_ok-root.ensures.enters.there
    c.in_ok-root.ensures.new c.in_ok-root.ensures.old)
    c.add_called.new.waiting c.add_firsts.new.found c.add_firsts.result c.in_ok-add_called.ensures.called c.add_firsts.ensures.adds

pub returns-clause-trail : goal.returns-clause-trail
returns-clause-trail c =
    λ text.
    on_ok_weaker c.add_firsts.result
    (λ d.
    starts_on c.args.context.now.core.now text
    (instance_by c.enter_values.new.envs.keys (record { nonterminal = 0; env = c.in_ok-env.env; start = 0 }))
    _
    c.add_firsts.new.found c.add_called.new.waiting c.args.run.now.trail c.add_firsts.new.trail
    c.requires.empty.done c.requires.empty.here (c.add_firsts.ensures.adds.grows.done ∙ c.requires.empty.done) c.requires.empty.later
    (c.in_ok-add_called.ensures.called ∙ ap (λ z. z ++ not_called ∷ []) c.requires.empty.called)
    (record {
      ways = c.requires.untrodden.ways;
      later = c.requires.untrodden.later;
      returned = c.requires.untrodden.returned;
      callers = c.in_ok-add_called.ensures.callers ∙ c.requires.untrodden.callers;
    }) d) c.add_firsts.ensures.ways
