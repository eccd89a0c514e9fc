use Rattle.std.proofs.Common.{[], ap, ◌∙◌, subst}
use Rattle.std.specs.Prelude.{None}
use Rattle.std.proofs.lemmas.Result.{on_ok_weaker}
use Rattle.ig_item.specs.Step.{Call}
use Rattle.ig_item.specs.View.{step_of}
use Rattle.ig_item.specs.Items.{MatchesNone, StandsBefore}
use Rattle.ig_item.specs.declared.ways.Way.TheVariants.{Node}
use Rattle.ig_plain.specs.Found.{Adds, means}
use Rattle.ig_run_moves.specs.Rules.{IsPastCall}
use Rattle.ig_plain.specs.Trail.{By, Records}
use Rattle.ig_plain.proofs.Additions.{adds_stops}
use Rattle.ig_plain.proofs.Returns.{into_return, return_alike, records_return, step_is}
use Rattle.ig_plain.proofs.run.return_to.Goals as goal

pub go_behind-requires-clause-by_nodes : goal.go_behind-requires-clause-by_nodes
go_behind-requires-clause-by_nodes c x m =
    let it = means c.args.found.now c.args.caller.item in
    let tree =
    step_is c.in-Some.step.now c.args.context.now.core.now it c.requires.calls.names (Call c.requires.calls.callee c.requires.calls.arguments c.requires.calls.label c.requires.calls.excluded) _
    c.requires.calls.before c.in-Some.ensures c.nonterminal_of-nonterminal.ensures in
    let call = tree ∙ ap step_of c.in-Call.is in
    c.requires.by_nodes x
    (into_return c.args.context.now.core.now c.args.context.now.text.now it c.args.end c.in-Call.nonterminal c.in-Call.args c.in-Call.label c.in-Call.not c.requires.calls.names
    (subst (StandsBefore c.args.context.now.core.now it c.requires.calls.names) call c.requires.calls.before) x
    (subst (λ z. MatchesNone c.args.context.now.text.now z c.args.caller.item.position c.args.end) c.as_slice-not.ensures m.0, m.1))

pub returns-in-Call-clause-adds : goal.returns-in-Call-clause-adds
returns-in-Call-clause-adds c =
    let it = means c.args.found.now c.args.caller.item in
    let tree =
    step_is c.in-Some.step.now c.args.context.now.core.now it c.requires.calls.names (Call c.requires.calls.callee c.requires.calls.arguments c.requires.calls.label c.requires.calls.excluded) _
    c.requires.calls.before c.in-Some.ensures c.nonterminal_of-nonterminal.ensures in
    let call = tree ∙ ap step_of c.in-Call.is in
    return_alike c.args.context.now.core.now c.args.context.now.text.now it c.args.end c.in-Call.nonterminal c.in-Call.args c.in-Call.label c.in-Call.not c.requires.calls.names
    (subst (StandsBefore c.args.context.now.core.now it c.requires.calls.names) call c.requires.calls.before)
    c.args.context.now.budget c.args.found.now c.go_behind.new.found c.go_behind.result
    (subst (λ z. Adds c.args.end (IsPastCall c.args.context.now.text.now c.in-Call.label z c.args.end it) c.args.context.now.budget c.args.found.now c.go_behind.new.found c.go_behind.result)
    c.as_slice-not.ensures c.go_behind.ensures.adds)

pub returns-in-Call-clause-ways : goal.returns-in-Call-clause-ways
returns-in-Call-clause-ways c =
    let it = means c.args.found.now c.args.caller.item in
    let way = Node c.args.caller.number c.args.done in
    let tree =
    step_is c.in-Some.step.now c.args.context.now.core.now it c.requires.calls.names (Call c.requires.calls.callee c.requires.calls.arguments c.requires.calls.label c.requires.calls.excluded) _
    c.requires.calls.before c.in-Some.ensures c.nonterminal_of-nonterminal.ensures in
    let call = tree ∙ ap step_of c.in-Call.is in
    on_ok_weaker c.go_behind.result
    (λ r. records_return c.args.context.now.core.now c.args.context.now.text.now it c.args.end c.in-Call.nonterminal c.in-Call.args c.in-Call.label c.in-Call.not c.requires.calls.names
    (subst (StandsBefore c.args.context.now.core.now it c.requires.calls.names) call c.requires.calls.before)
    way c.args.found.now c.go_behind.new.found c.args.trail.now c.go_behind.new.trail
    (subst (λ z. Records (By way (IsPastCall c.args.context.now.text.now c.in-Call.label z c.args.end it))
    c.args.found.now c.go_behind.new.found c.args.trail.now c.go_behind.new.trail) c.as_slice-not.ensures r)) c.go_behind.ensures.ways

pub go_behind_bare-requires-clause-by_nodes : goal.go_behind_bare-requires-clause-by_nodes
go_behind_bare-requires-clause-by_nodes c x m =
    let bare = c.requires.bare c.if-caller.true in
    c.requires.by_nodes x (into_return c.args.context.now.core.now c.args.context.now.text.now (means c.args.found.now c.args.caller.item) c.args.end bare.callee bare.arguments None [] bare.names bare.before x m)

pub returns-then-caller-clause-adds : goal.returns-then-caller-clause-adds
returns-then-caller-clause-adds c =
    let bare = c.requires.bare c.if-caller.true in
    return_alike c.args.context.now.core.now c.args.context.now.text.now (means c.args.found.now c.args.caller.item) c.args.end bare.callee bare.arguments None [] bare.names bare.before
    c.args.context.now.budget c.args.found.now c.go_behind_bare.new.found _ c.in_ok-go_behind_bare.ensures.adds

pub returns-then-caller-clause-ways : goal.returns-then-caller-clause-ways
returns-then-caller-clause-ways c =
    let bare = c.requires.bare c.if-caller.true in
    records_return c.args.context.now.core.now c.args.context.now.text.now (means c.args.found.now c.args.caller.item) c.args.end bare.callee bare.arguments None [] bare.names bare.before
    (Node c.args.caller.number c.args.done) c.args.found.now c.go_behind_bare.new.found c.args.trail.now c.go_behind_bare.new.trail
    c.in_ok-go_behind_bare.ensures.ways

pub returns-in_err-go_behind_bare-clause-adds : goal.returns-in_err-go_behind_bare-clause-adds
returns-in_err-go_behind_bare-clause-adds c =
    let bare = c.requires.bare c.if-caller.true in
    adds_stops c.args.end _ c.args.context.now.budget c.args.found.now c.go_behind_bare.new.found c.from_residual.result c.in_err-go_behind_bare.field-0.0 c.from_residual.ensures.1
    (return_alike c.args.context.now.core.now c.args.context.now.text.now (means c.args.found.now c.args.caller.item) c.args.end bare.callee bare.arguments None [] bare.names bare.before
    c.args.context.now.budget c.args.found.now c.go_behind_bare.new.found _ c.in_err-go_behind_bare.ensures.adds)
