use Rattle.std.proofs.Common.{sym, ◌∙◌, arith}
use Rattle.ig_text.proofs.Lists.{contains_from_at}
use Rattle.ig_analyse.proofs.Counting.{ends_derived, stops_derived, few_found, found_below}
use Rattle.ig_analyse.proofs.making.derived.Goals as goal

pub overflow_cast-number : goal.overflow_cast-number
overflow_cast-number c =
    let l = found_below c.args.rules.now c.args.count _ c.loop-turn.work _ c.loop-turn.invariant c.in-Some.number
    (contains_from_at c.loop-turn.work.found.items c.loop-turn.turn c.in-Some.number (sym c.in-Some.ensures)) in
    omega (arith, l)

pub take-requires-clause-number : goal.take-requires-clause-number
take-requires-clause-number c =
    let l = found_below c.args.rules.now c.args.count _ c.loop-turn.work _ c.loop-turn.invariant c.in-Some.number
    (contains_from_at c.loop-turn.work.found.items c.loop-turn.turn c.in-Some.number (sym c.in-Some.ensures)) in
    let s = c.in_ok-callers.ensures.long in omega (arith, l, s)

pub returns-in_default : goal.returns-in_default
returns-in_default c =
    stops_derived c.args.rules.now c.args.count c.loop-turn.turn c.in_ok-callers.callers.lists c.loop-turn.work c.in_ok-callers.ensures c.requires
    c.loop-turn.invariant (sym c.at.ensures ∙ c.in_default.is)

pub returns : goal.returns
returns c =
    let l = c.loop-turn-test.false in
    let f = few_found c.args.rules.now c.args.count _ c.loop-turn.work _ c.loop-turn.invariant in
    ends_derived c.args.rules.now c.args.count c.loop-turn.turn c.in_ok-callers.callers.lists c.loop-turn.work c.in_ok-callers.ensures c.requires
    c.loop-turn.invariant (omega (arith, l, f))
