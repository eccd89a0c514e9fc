use Rattle.std.proofs.Common.{refl, sym, ap, ◌∙◌, subst, length, arith}
use Rattle.std.proofs.lemmas.List.{length-set}
use Rattle.std.specs.Prelude.{OnOk}
use Rattle.ig_run_moves.specs.Waiting.{called_at}
use Rattle.ig_plain.specs.Run.{IsChainOf, IsReturnToOne}
use Rattle.ig_plain.specs.Found.{Adds, means}
use Rattle.ig_plain.specs.Trail.{Records, AreKnown, IsReturnBy}
use Rattle.ig_plain.proofs.Distinct.{found_once}
use Rattle.ig_plain.proofs.Waiters.{ended_set}
use Rattle.ig_plain.proofs.Completes.{called_there, nothing_new, chain_of, completes, run_at, head_now}
use Rattle.ig_plain.proofs.Fresh.{found_by_node}
use Rattle.ig_plain.proofs.Onward.{trail_at}
use Rattle.ig_plain.proofs.TakenOn.{again_on, completes_on}
use Rattle.ig_plain.proofs.run.take_complete.Goals as goal

pub end_at-requires : goal.end_at-requires
end_at-requires c =
    record {
      there = called_there c.args.context.now.core.now c.args.context.now.text.now c.reachable_is_closed.ensures c.args.context.now.budget c.args.taken.item.position c.requires.taking.number c.args.run.now.found c.args.run.now.waiting c.args.taken.item
          refl c.requires.taking.run c.requires.taking.at;
    }

pub returns-in-Some-clause-takes : goal.returns-in-Some-clause-takes
returns-in-Some-clause-takes c =
    λ k e. nothing_new c.args.context.now.core.now c.args.context.now.text.now c.reachable_is_closed.ensures c.args.context.now.budget c.args.taken.item.position k c.args.run.now.found c.args.run.now.waiting c.args.taken.item
    refl (run_at c.args.context.now.core.now c.args.context.now.text.now c.args.context.now.budget c.args.taken.item c.args.run.now.found c.args.run.now.waiting c.requires.taking k e) e c.requires.complete
    c.in-Some.ensures.some

pub returns-in-Some-clause-trail : goal.returns-in-Some-clause-trail
returns-in-Some-clause-trail c =
    λ k e.
    let h = trail_at c.args.context.now.core.now c.args.context.now.text.now c.args.taken.item.position c.args.taken.item c.args.taken.number c.args.run.now.found c.args.run.now.waiting c.args.run.now.trail
    c.requires.taking.run.taking.stored c.requires.next k e in
    again_on c.args.context.now.core.now c.args.context.now.text.now c.reachable_is_closed.ensures c.args.context.now.budget c.args.taken.item.position k c.args.run.now.found c.args.run.now.waiting c.args.run.now.trail
    c.args.taken.item c.args.taken.number refl (run_at c.args.context.now.core.now c.args.context.now.text.now c.args.context.now.budget c.args.taken.item c.args.run.now.found c.args.run.now.waiting c.requires.taking k e) e
    h.1 h.0 c.requires.complete c.in-Some.first _ c.in-Some.ensures.some c.in-Some.ensures.done c.in_ok-add_further_end.ensures refl refl

pub add_end-requires : goal.add_end-requires
add_end-requires c =
    record {
      there = called_there c.args.context.now.core.now c.args.context.now.text.now c.reachable_is_closed.ensures c.args.context.now.budget c.args.taken.item.position c.requires.taking.number c.args.run.now.found c.args.run.now.waiting c.args.taken.item
          refl c.requires.taking.run c.requires.taking.at;
    }

pub first_caller-head-requires : goal.first_caller-head-requires
first_caller-head-requires c =
    let l = called_there c.args.context.now.core.now c.args.context.now.text.now c.reachable_is_closed.ensures c.args.context.now.budget c.args.taken.item.position c.requires.taking.number c.args.run.now.found c.args.run.now.waiting c.args.taken.item
    refl c.requires.taking.run c.requires.taking.at in
    let e = ap length c.add_end.ensures.called ∙ length-set c.args.run.now.waiting.called.items c.args.taken.item.instance _ in
    record { there = omega (arith, l, e) }

pub return_to_all-requires-clause-chain : goal.return_to_all-requires-clause-chain
return_to_all-requires-clause-chain c =
    let l = called_there c.args.context.now.core.now c.args.context.now.text.now c.reachable_is_closed.ensures c.args.context.now.budget c.args.taken.item.position c.requires.taking.number c.args.run.now.found c.args.run.now.waiting c.args.taken.item
    refl c.requires.taking.run c.requires.taking.at in
    subst (λ z. IsChainOf c.args.context.now.core.now z c.first_caller-head.result c.args.run.now.found) (sym (c.as_slice-callers.ensures.value ∙ c.add_end.ensures.callers))
    (subst (λ z. IsChainOf c.args.context.now.core.now c.args.run.now.waiting.callers.items z c.args.run.now.found)
    (sym (c.first_caller-head.ensures ∙ head_now c.args.run.now.waiting c.add_end.new.waiting c.args.taken.item.instance c.args.taken.item.position c.args.taken.number l c.add_end.ensures.called))
    (chain_of c.args.context.now.core.now c.args.context.now.text.now c.reachable_is_closed.ensures c.args.context.now.budget c.args.taken.item.position c.requires.taking.number c.args.run.now.found c.args.run.now.waiting c.args.taken.item
    refl c.requires.taking.run c.requires.taking.at c.requires.complete))

pub return_to_all-requires-clause-known : goal.return_to_all-requires-clause-known
return_to_all-requires-clause-known c =
    subst (AreKnown c.args.context.now.core.now c.args.run.now.found) (sym (c.as_slice-callers.ensures.value ∙ c.add_end.ensures.callers)) c.requires.next.trail.callers

pub return_to_all-requires-clause-once : goal.return_to_all-requires-clause-once
return_to_all-requires-clause-once c = found_once c.args.taken.item.position c.args.run.now.found c.requires.taking.run.taking.stored

pub return_to_all-requires-clause-indexed : goal.return_to_all-requires-clause-indexed
return_to_all-requires-clause-indexed c = c.requires.next.trail.indexed

pub return_to_all-requires-clause-by_nodes : goal.return_to_all-requires-clause-by_nodes
return_to_all-requires-clause-by_nodes c x m =
    let call = m.returns.call in
    found_by_node c.args.context.now.core.now c.args.context.now.text.now c.args.run.now.found c.args.run.now.trail _ c.requires.next.trail.ways (means c.args.run.now.found m.caller) call.names call.callee
    call.arguments call.label call.excluded call.before x _ c.args.taken.item.position m.returns.is

pub returns-clause-takes : goal.returns-clause-takes
returns-clause-takes c =
    λ k e.
    let l = called_there c.args.context.now.core.now c.args.context.now.text.now c.reachable_is_closed.ensures c.args.context.now.budget c.args.taken.item.position c.requires.taking.number c.args.run.now.found c.args.run.now.waiting c.args.taken.item
    refl c.requires.taking.run c.requires.taking.at in
    completes c.args.context.now.core.now c.args.context.now.text.now c.reachable_is_closed.ensures c.args.context.now.budget c.args.taken.item.position k c.args.run.now.found c.args.run.now.waiting c.args.taken.item
    refl (run_at c.args.context.now.core.now c.args.context.now.text.now c.args.context.now.budget c.args.taken.item c.args.run.now.found c.args.run.now.waiting c.requires.taking k e) e c.requires.complete
    c.return_to_all.new.found _ c.return_to_all.result
    (ended_set c.args.run.now.waiting c.add_end.new.waiting c.args.taken.item.instance c.args.taken.item.position c.args.taken.number l c.add_end.ensures.callers c.add_end.ensures.called)
    (subst (λ z. Adds c.args.taken.item.position (IsReturnToOne c.args.context.now.core.now c.args.context.now.text.now z (called_at c.args.run.now.waiting c.args.taken.item.instance).first c.args.taken.item.position c.args.run.now.found) c.args.context.now.budget c.args.run.now.found c.return_to_all.new.found c.return_to_all.result)
    (c.as_slice-callers.ensures.value ∙ c.add_end.ensures.callers)
    (subst (λ z. Adds c.args.taken.item.position (IsReturnToOne c.args.context.now.core.now c.args.context.now.text.now c.as_slice-callers.result.now z c.args.taken.item.position c.args.run.now.found) c.args.context.now.budget c.args.run.now.found c.return_to_all.new.found c.return_to_all.result)
    (c.first_caller-head.ensures ∙ head_now c.args.run.now.waiting c.add_end.new.waiting c.args.taken.item.instance c.args.taken.item.position c.args.taken.number l c.add_end.ensures.called)
    c.return_to_all.ensures.adds))

pub returns-clause-trail : goal.returns-clause-trail
returns-clause-trail c =
    λ k e.
    let l = called_there c.args.context.now.core.now c.args.context.now.text.now c.reachable_is_closed.ensures c.args.context.now.budget c.args.taken.item.position c.requires.taking.number c.args.run.now.found c.args.run.now.waiting c.args.taken.item
    refl c.requires.taking.run c.requires.taking.at in
    let cells = c.as_slice-callers.ensures.value ∙ c.add_end.ensures.callers in
    let head = c.first_caller-head.ensures ∙ head_now c.args.run.now.waiting c.add_end.new.waiting c.args.taken.item.instance c.args.taken.item.position c.args.taken.number l c.add_end.ensures.called in
    let h = trail_at c.args.context.now.core.now c.args.context.now.text.now c.args.taken.item.position c.args.taken.item c.args.taken.number c.args.run.now.found c.args.run.now.waiting c.args.run.now.trail
    c.requires.taking.run.taking.stored c.requires.next k e in
    completes_on c.args.context.now.core.now c.args.context.now.text.now c.reachable_is_closed.ensures c.args.context.now.budget c.args.taken.item.position k c.args.run.now.found c.args.run.now.waiting c.args.run.now.trail
    c.args.taken.item c.args.taken.number refl (run_at c.args.context.now.core.now c.args.context.now.text.now c.args.context.now.budget c.args.taken.item c.args.run.now.found c.args.run.now.waiting c.requires.taking k e) e
    h.1 h.0 c.requires.complete c.in_default.ensures.none c.return_to_all.new.found _ c.return_to_all.new.trail c.return_to_all.result
    c.add_end.ensures.callers c.add_end.ensures.called
    (subst (λ z. Adds c.args.taken.item.position (IsReturnToOne c.args.context.now.core.now c.args.context.now.text.now z (called_at c.args.run.now.waiting c.args.taken.item.instance).first c.args.taken.item.position c.args.run.now.found) c.args.context.now.budget c.args.run.now.found c.return_to_all.new.found c.return_to_all.result)
    cells
    (subst (λ z. Adds c.args.taken.item.position (IsReturnToOne c.args.context.now.core.now c.args.context.now.text.now c.as_slice-callers.result.now z c.args.taken.item.position c.args.run.now.found) c.args.context.now.budget c.args.run.now.found c.return_to_all.new.found c.return_to_all.result)
    head c.return_to_all.ensures.adds))
    (subst (λ z. OnOk c.return_to_all.result (Records (IsReturnBy c.args.context.now.core.now c.args.context.now.text.now z (called_at c.args.run.now.waiting c.args.taken.item.instance).first c.args.taken.number c.args.taken.item.position c.args.run.now.found) c.args.run.now.found c.return_to_all.new.found c.args.run.now.trail c.return_to_all.new.trail))
    cells
    (subst (λ z. OnOk c.return_to_all.result (Records (IsReturnBy c.args.context.now.core.now c.args.context.now.text.now c.as_slice-callers.result.now z c.args.taken.number c.args.taken.item.position c.args.run.now.found) c.args.run.now.found c.return_to_all.new.found c.args.run.now.trail c.return_to_all.new.trail))
    head c.return_to_all.ensures.ways))
