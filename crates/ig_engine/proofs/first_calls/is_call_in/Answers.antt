use Rattle.std.proofs.Common.{length, refl}
use Rattle.std.proofs.lemmas.Option.{slice_get_past, slice_get_read}
use Rattle.ig_engine.proofs.FirstCalls.{call_there, none_there}
use Rattle.ig_engine.proofs.first_calls.is_call_in.Goals as goal

pub returns-in-Some : goal.returns-in-Some
returns-in-Some c =
    let steps = c.args.steps.now in
    let step = c.in-Some.step.now in
    let lent = c.in-Some.ensures.lookup.3 in
    call_there steps c.args.number step (slice_get_read steps (length steps) c.args.number step refl lent.0 (lent.1 step)) c.is_call.result
    c.is_call.ensures

pub returns-in-None : goal.returns-in-None
returns-in-None c = none_there c.args.steps.now c.args.number (slice_get_past c.args.steps.now c.args.number c.in-None.ensures.lookup.3)
