use Rattle.std.proofs.Common.{refl, ap}
use Rattle.ig_item.specs.Items.{Item}
use Rattle.ig_item.specs.declared.ways.Way.TheVariants.{Node}
use Rattle.ig_run_moves.specs.Rules.{IsPastCall}
use Rattle.ig_plain.proofs.Additions.{adds_exit}
use Rattle.ig_plain.proofs.Behind.{named_behind, node_behind, it_is_behind, adds_none_behind, records_none_behind, adds_behind, records_behind}
use Rattle.ig_plain.proofs.Growth.{grows_not}
use Rattle.ig_plain.proofs.Naming.{wider}
use Rattle.ig_plain.proofs.moves.go_behind.Goals as goal

pub invariant_of-found : goal.invariant_of-found
invariant_of-found c = record { named = wider c.args.found.now.named _ c.behind_call.ensures.extends }

pub behind_call-requires : goal.behind_call-requires
behind_call-requires c = record { there = c.requires.named.env }

pub returns-in_err-behind-clause-adds : goal.returns-in_err-behind-clause-adds
returns-in_err-behind-clause-adds c =
    adds_exit c.args.end _ c.args.context.now.budget c.args.found.now _ c.from_residual.result c.from_residual.ensures.1
    (grows_not c.args.end _ c.args.found.now _ c.in_err-behind.ensures.extends c.in_err-behind.ensures.once refl refl refl refl)

pub returns-in_default-clause-adds : goal.returns-in_default-clause-adds
returns-in_default-clause-adds c =
    adds_none_behind (IsPastCall c.args.context.now.text.now c.args.qualifiers.now.label.now c.args.qualifiers.now.not.now c.args.end) c.args.found.now _
    c.args.from.item _ c.requires.named c.in_ok-behind.ensures.moves c.in_ok-behind.ensures.extends c.in_ok-behind.ensures.once
    refl refl refl refl c.args.end c.args.context.now.budget c.in_default.is

pub returns-in_default-clause-ways : goal.returns-in_default-clause-ways
returns-in_default-clause-ways c =
    records_none_behind (IsPastCall c.args.context.now.text.now c.args.qualifiers.now.label.now c.args.qualifiers.now.not.now c.args.end) c.args.found.now _
    c.args.from.item _ c.requires.named c.in_ok-behind.ensures.moves c.in_ok-behind.ensures.extends c.in_ok-behind.ensures.once
    refl refl refl refl (Node c.args.from.number c.args.done) c.args.trail.now c.in_default.is

pub add_returned-requires-clause-named : goal.add_returned-requires-clause-named
add_returned-requires-clause-named c =
    named_behind (IsPastCall c.args.context.now.text.now c.args.qualifiers.now.label.now c.args.qualifiers.now.not.now c.args.end) c.args.found.now _
    c.args.from.item _ c.in_ok-behind.ensures.extends c.requires.named c.in_ok-behind.ensures.moves c.in-Some.behind c.in-Some.is

pub add_returned-requires-clause-indexed : goal.add_returned-requires-clause-indexed
add_returned-requires-clause-indexed c = c.requires.indexed

pub add_returned-requires-clause-by_node : goal.add_returned-requires-clause-by_node
add_returned-requires-clause-by_node c =
    node_behind (IsPastCall c.args.context.now.text.now c.args.qualifiers.now.label.now c.args.qualifiers.now.not.now c.args.end) c.args.found.now _
    c.args.from.item _ c.in_ok-behind.ensures.extends c.requires.named c.in_ok-behind.ensures.moves c.in-Some.behind c.in-Some.is
    c.args.trail.now c.requires.by_nodes

pub returns-clause-adds : goal.returns-clause-adds
returns-clause-adds c =
    adds_behind (IsPastCall c.args.context.now.text.now c.args.qualifiers.now.label.now c.args.qualifiers.now.not.now c.args.end) c.args.found.now _
    c.args.from.item _ c.requires.named c.in_ok-behind.ensures.moves c.in_ok-behind.ensures.extends c.in_ok-behind.ensures.once
    refl refl refl refl c.in-Some.behind c.in-Some.is c.add_returned.new.found c.args.end c.args.context.now.budget c.add_returned.result
    (ap (λ (z : Item). z.position)
    (it_is_behind (IsPastCall c.args.context.now.text.now c.args.qualifiers.now.label.now c.args.qualifiers.now.not.now c.args.end) c.args.found.now _
    c.args.from.item _ c.in_ok-behind.ensures.extends c.requires.named c.in_ok-behind.ensures.moves c.in-Some.behind c.in-Some.is).1)
    c.add_returned.ensures.adds

pub returns-clause-ways : goal.returns-clause-ways
returns-clause-ways c =
    records_behind (IsPastCall c.args.context.now.text.now c.args.qualifiers.now.label.now c.args.qualifiers.now.not.now c.args.end) c.args.found.now _
    c.args.from.item _ c.requires.named c.in_ok-behind.ensures.moves c.in_ok-behind.ensures.extends c.in_ok-behind.ensures.once
    refl refl refl refl c.in-Some.behind c.in-Some.is c.add_returned.new.found (Node c.args.from.number c.args.done) c.args.trail.now
    c.add_returned.new.trail c.add_returned.result c.add_returned.ensures.ways
