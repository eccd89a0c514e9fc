use Rattle.std.proofs.Common.{◌≡◌, ◌≢◌, ◌<◌, ◌∙◌, Some, length, slice_get, set, sym, ap, subst}
use Rattle.std.proofs.Math.Seq.{map-set_same}
use Rattle.std.proofs.lemmas.Option.{same_Some, get_or_from_slice_get}
use Rattle.std.proofs.lemmas.Result.{on_ok_weaker}
use Rattle.ig_turns.specs.Played.{Played}
use Rattle.ig_turns.proofs.Places.{set_here, set_elsewhere}
use Rattle.ig_turns.proofs.turns.play_turn.Goals as goal

pub returns-clause-outcomes : goal.returns-clause-outcomes
returns-clause-outcomes g c =
    map-set_same g.J.Job.outcome c.args.jobs.now.items c.place.result c.take_events.new.job c.index_mut.result.now
    (c.take_events.ensures.outcome ∙ ap g.J.Job.outcome c.index_mut.ensures.value)

pub returns-clause-others : goal.returns-clause-others
returns-clause-others g c job apart =
    set_elsewhere c.args.jobs.now.items c.place.result job c.take_events.new.job (subst (λ k. k ≢ job) (sym c.place.ensures) apart)

pub returns-clause-played : goal.returns-clause-played
returns-clause-played g c =
    let jobs = c.args.jobs.now.items in
    let job = c.place.result in
    let new = c.take_events.new.job in
    let within : job < length jobs = subst (λ k. k < length jobs) (sym c.place.ensures) c.requires in
    on_ok_weaker c.take_events.result (λ p x y before after.
    let first : slice_get jobs job ≡ Some x = subst (λ k. slice_get jobs k ≡ Some x) (sym c.place.ensures) before in
    let last : slice_get (set jobs job new) job ≡ Some y =
    subst (λ k. slice_get (set jobs job new) k ≡ Some y) (sym c.place.ensures) after in
    subst (λ z. Played g.J.Job.taken g.J.Job.left c.args.turn.events z y)
    (c.index_mut.ensures.value ∙ get_or_from_slice_get jobs job x c.index_mut.result.now first)
    (subst (Played g.J.Job.taken g.J.Job.left c.args.turn.events c.index_mut.result.now)
    (same_Some _ _ (sym (set_here jobs job new within) ∙ last)) p))
    c.take_events.ensures.played
